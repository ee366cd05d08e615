pub mod Roles
pub mod Required
