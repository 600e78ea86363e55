pub mod Puts
pub mod PutsLaws
pub mod Said
pub mod SaidLaws
