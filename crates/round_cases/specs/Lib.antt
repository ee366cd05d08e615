pub mod Conditions
pub mod Cases
pub mod Kept
