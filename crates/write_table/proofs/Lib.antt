pub mod Writing
pub mod Filling
pub mod Rooms
pub mod Laying
pub mod Spelling
