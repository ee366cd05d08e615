pub mod Forms
pub mod Putting
