pub mod Months
pub mod Bounds
pub mod Lent
pub mod Reached
pub mod Counting
pub mod Examples
