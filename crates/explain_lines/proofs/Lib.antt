pub mod Passing
pub mod Tables
pub mod Attributes
mod Examples
