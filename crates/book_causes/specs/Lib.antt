pub mod Ordered
pub mod OrderedLaws
pub mod Source
pub mod Accepted
pub mod OrderedRun
pub mod AcceptedLaws
pub mod LevelsLaws
