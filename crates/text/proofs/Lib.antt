pub mod Putting
mod Cleaning
pub mod Pieces
mod Unchanged
mod Writing
pub mod Checking
pub mod Values
mod Examples
pub use Rattle.utf8_chars.proofs.of_area as of_area
pub use Rattle.reference.proofs.of_digits as of_digits
pub use Rattle.reference.proofs.of_names as of_names
pub use Rattle.reference.proofs as of_reference
pub use Rattle.text_filter.proofs as of_text_filter
pub use Rattle.utf8_chars.proofs.of_utf8 as of_utf8
