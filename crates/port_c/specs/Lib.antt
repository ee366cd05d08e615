pub mod Answers
pub mod Documents
pub mod Sheets
pub mod Started
