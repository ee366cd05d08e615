pub mod Held
pub mod Refines
