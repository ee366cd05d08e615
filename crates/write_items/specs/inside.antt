pub mod Values
pub mod Slots
pub mod Walk
pub mod Status
pub mod Rows
pub mod Case
pub mod Suite
pub mod Document
