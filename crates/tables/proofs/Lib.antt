pub mod Changes
pub mod Insertion
pub mod Places
pub mod Rows
pub mod Runs
pub mod Sets
