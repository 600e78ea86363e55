pub mod Cursor
pub mod CursorLaws
