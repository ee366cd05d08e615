pub mod Hinted
pub mod Promises
