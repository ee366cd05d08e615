pub mod Last
pub mod Coded
