pub mod Counting
mod Examples
