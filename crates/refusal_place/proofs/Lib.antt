pub mod Examples
pub mod Finding
pub mod Within
