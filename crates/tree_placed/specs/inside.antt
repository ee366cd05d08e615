pub mod Placed
pub mod Changed
