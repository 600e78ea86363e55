pub mod Key
pub mod CodeLaws
pub mod KeyLaws
