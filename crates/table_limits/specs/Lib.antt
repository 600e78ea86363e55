pub mod Limits
pub mod LimitsLaws
