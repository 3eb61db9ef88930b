pub mod Fronts
pub mod Grouping
pub mod Listing
pub mod Lawfulness
pub mod Rows
pub mod Walks
pub mod Below
