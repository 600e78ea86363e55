pub mod Joins
pub mod JoinsLaws
