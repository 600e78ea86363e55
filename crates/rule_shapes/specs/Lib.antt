pub mod FoundShape
pub mod FoundShapeLaws
pub mod ShapeNumbers
