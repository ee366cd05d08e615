pub mod Flaky
pub mod Families
pub mod Turning
pub mod Settings
