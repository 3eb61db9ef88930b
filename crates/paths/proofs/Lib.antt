pub mod Joins
pub mod Naming
pub mod Spelled
pub mod Comparing
pub mod Held
pub mod Laid
