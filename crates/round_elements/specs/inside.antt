pub mod Opened
pub mod Held
pub mod Read
pub mod PlainCase
