pub mod WrittenSteps
pub mod StepBytes
pub mod StepBytesLaws
pub mod StepLaws
pub mod NumberedLaws
pub mod LeadsLaws
pub mod Derivations
pub mod RunningLaws
