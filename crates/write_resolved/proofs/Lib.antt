pub mod Standing
pub mod Sizes
pub mod Entries
pub mod Writable
pub mod Laying
pub mod Resolved
