pub mod Promises
pub mod Stored
