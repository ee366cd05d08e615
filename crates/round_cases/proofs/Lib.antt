pub mod Conditions
pub mod Apart
pub mod Cases
pub mod Kept
pub mod Limits
