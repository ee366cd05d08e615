pub mod Counting
pub mod Building
pub mod Told
