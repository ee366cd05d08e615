pub mod Gathering
mod Examples
pub use Rattle.text.proofs.of_area as of_area
pub use Rattle.text.proofs.of_reference as of_reference
pub use Rattle.text.proofs as of_text
pub use Rattle.text.proofs.of_text_filter as of_text_filter
pub use Rattle.text.proofs.of_utf8 as of_utf8
