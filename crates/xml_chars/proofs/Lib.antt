pub mod CharLaws
pub mod Encoding
pub use Rattle.utf8.proofs as of_utf8
