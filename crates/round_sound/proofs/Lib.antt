pub mod Lists
pub mod Texts
pub mod Records
pub mod Rows
pub mod Counting
pub mod Areas
pub mod Sound
pub mod Examples
