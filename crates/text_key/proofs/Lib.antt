mod Keys
pub use Rattle.text.proofs.of_area as of_area
pub use Rattle.text.proofs.of_names as of_names
pub use Rattle.text.proofs as of_text
