pub mod BookStores
pub mod BookStoreLaws
pub mod BookWriting
pub mod BookWritingLaws
