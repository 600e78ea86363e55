pub mod ShortQuestion
pub mod ShortQuestionLaws
pub mod RuleTable
pub mod RuleTableLaws
pub mod Completing
pub mod CompletingLaws
pub mod Admission
pub mod AdmissionLaws
