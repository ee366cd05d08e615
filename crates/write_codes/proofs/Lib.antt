pub use Rattle.write_items.proofs.of_area as of_area
pub use Rattle.write_items.proofs as of_write_items
