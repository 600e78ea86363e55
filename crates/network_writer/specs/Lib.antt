pub mod WritesNetwork
pub mod RowBytes
pub mod RowBytesLaws
pub mod Laying
pub mod LayingLaws
pub mod AnswerStages
pub mod AnswerLaws
