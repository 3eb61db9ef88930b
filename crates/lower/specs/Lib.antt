pub mod AttrNodes
pub mod Keeping
