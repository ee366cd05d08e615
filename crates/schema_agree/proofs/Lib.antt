pub mod Keys
pub mod Written
pub mod Shown
pub mod Puts
pub mod Lookups
pub mod Required
pub mod Numbers
