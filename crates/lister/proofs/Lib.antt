pub mod Dead
pub mod Lines
pub mod Unrolling
pub mod Used
pub mod Answered
mod Examples
