pub mod Related
pub mod Scratch
