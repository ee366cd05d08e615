pub mod Walking
pub mod Within
