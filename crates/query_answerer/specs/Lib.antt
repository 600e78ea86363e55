pub mod Batch
pub mod BatchLaws
