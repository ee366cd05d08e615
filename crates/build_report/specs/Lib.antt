pub mod Operations
pub mod Stands
pub mod Builders
