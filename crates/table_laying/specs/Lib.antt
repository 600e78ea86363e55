pub mod Pieces
pub mod Laid
pub mod Own
pub mod Fragment
pub mod Left
pub mod RootsLeft
pub mod Shifted
pub mod ShiftedLaws
