pub mod CleanOrder
pub mod Following
