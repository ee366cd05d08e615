pub mod Modes
pub mod Rep
pub mod Agree
