pub mod Contents
pub mod Reading
pub mod Growth
pub mod Lists
pub mod Numbers
pub mod Added
