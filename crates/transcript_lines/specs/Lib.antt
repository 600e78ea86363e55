pub mod Lines
pub mod LinesLaws
pub mod Transcript
pub mod TranscriptLaws
pub mod OneTranscript
pub mod Block
pub mod BlockLaws
pub mod OneBlock
