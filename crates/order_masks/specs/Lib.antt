pub mod AbsorbLaws
pub mod MaskLevels
pub mod ReachLaws
