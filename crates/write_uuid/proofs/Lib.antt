pub mod Spelling
pub mod Texts
pub mod Examples
