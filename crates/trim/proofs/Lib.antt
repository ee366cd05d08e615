pub mod Trimming
pub mod Ends
mod Backward
pub mod Examples
pub use Rattle.utf8_chars.proofs.of_area as of_area
pub use Rattle.utf8_chars.proofs.of_utf8 as of_utf8
