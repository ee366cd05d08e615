pub use Rattle.utf8.proofs.of_area as of_area
pub use Rattle.utf8.proofs as of_utf8
