pub mod Mask
pub mod MaskLaws
pub mod MemberLaws
