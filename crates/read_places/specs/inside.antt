pub mod Stands
pub mod Told
