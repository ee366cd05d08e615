pub mod Planned
pub mod Growing
pub mod Tags
mod Examples
