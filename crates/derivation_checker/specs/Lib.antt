pub mod CheckedDerivation
pub mod CheckingRoom
pub mod Applied
pub mod InsertionLaws
pub mod AppliedLaws
pub mod Following
pub mod CheckedLaws
