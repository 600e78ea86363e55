pub mod PartsLaws
pub mod Answer
pub mod AnswerBytes
