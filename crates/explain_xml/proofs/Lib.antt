pub mod Table
pub mod Parts
pub mod Answered
mod Examples
