pub mod Merging
pub mod Counting
pub mod Numbers
mod Running
mod Sorting
pub mod Taking
pub use Rattle.clean_order.proofs.of_key_order as of_key_order
pub use Rattle.clean_order.proofs.of_names as of_names
