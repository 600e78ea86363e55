pub mod Adding
pub mod AddingLaws
