pub mod Turns
pub mod Since
