pub mod Fills
pub mod Sinks
