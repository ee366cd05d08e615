pub mod Amid
pub mod Kept
