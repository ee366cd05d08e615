pub mod Escaped
pub mod Uuids
pub mod Moments
pub use Rattle.write_escape.proofs.of_escape as of_escape
pub use Rattle.text.proofs as of_text
pub use Rattle.write_escape.proofs as of_write_escape
