pub mod Chart
pub mod SplitsLaws
pub mod CompleteLaws
pub mod Reach
pub mod ReachingLaws
