pub mod LinkedLists
pub mod LinkedListsLaws
