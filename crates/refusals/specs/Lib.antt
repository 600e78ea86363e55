pub mod BookRefusals
pub mod BuildRefusals
pub mod QueryRefusals
pub mod BookQueryRefusals
pub mod Said
pub mod Check
