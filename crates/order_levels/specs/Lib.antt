pub mod Levels
pub mod Climbing
pub mod RankedLaws
pub mod TierLaws
pub mod ClimbedLaws
pub mod WalkLaws
