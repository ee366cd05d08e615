pub mod Running
pub mod AnyOrder
mod Examples
