pub mod Planned
pub mod Promises
pub mod Standing
