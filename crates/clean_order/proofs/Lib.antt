mod Passing
mod Walking
pub use Rattle.text_key.proofs.of_area as of_area
pub use Rattle.key_order.proofs as of_key_order
pub use Rattle.text_key.proofs.of_names as of_names
