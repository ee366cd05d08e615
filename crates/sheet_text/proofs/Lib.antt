pub mod Answered
mod Examples
