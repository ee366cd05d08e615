pub mod Doctype
pub mod Answers
