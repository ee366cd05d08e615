pub mod Characters
pub mod Escapes
pub mod Contents
pub mod Attributes
pub mod Elements
pub mod Numbers
pub mod Values
pub mod Parts
pub mod Reports
pub mod Documents
pub mod Layouts
mod Examples
