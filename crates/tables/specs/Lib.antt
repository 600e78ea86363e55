pub mod Tables
pub mod Path
pub mod Run
