pub mod Kinds
pub mod Meaning
pub mod Refusals
pub mod Table
pub mod Trees
pub mod Law
pub mod Standing
pub mod Children
