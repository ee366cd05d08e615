pub mod Needs
pub mod Merging
pub mod inside
