pub mod Verdict
pub mod VerdictLaws
