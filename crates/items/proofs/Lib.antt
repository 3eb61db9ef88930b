pub mod Merges
pub mod Apart
