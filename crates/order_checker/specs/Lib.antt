pub mod Gather
pub mod AddLaws
pub mod FrontLaws
pub mod GatherLaws
pub mod OrderLaws
