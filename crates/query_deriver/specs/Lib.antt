pub mod DerivedRefusals
pub mod Replies
pub mod RepliesLaws
