pub mod Opened
pub mod OpenedLaws
pub mod Advances
pub mod AdvancesLaws
pub mod KeptLaws
pub mod SessionLaws
