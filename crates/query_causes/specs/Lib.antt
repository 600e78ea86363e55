pub mod Query
pub mod Input
pub mod ManyQueries
