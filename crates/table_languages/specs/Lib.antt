pub mod LeftSides
pub mod RoleShapes
pub mod MachineRuns
pub mod Sound
pub mod Complete
pub mod Derived
