pub mod Counting
pub mod Sizes
pub mod Plain
pub mod Ordering
mod Examples
