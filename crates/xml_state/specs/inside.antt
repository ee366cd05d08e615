pub mod Rows
pub mod Tables
pub mod Parts
pub mod Registers
pub mod Acts
pub mod Puts
pub mod Turns
