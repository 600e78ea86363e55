pub mod InnerNamed
pub mod FromRun
pub mod Carried
pub mod CarriedRows
pub mod FromPath
pub mod Accepts
