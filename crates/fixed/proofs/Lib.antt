pub mod Tests
pub mod Numerals
pub mod Texts
pub mod Examples
pub use Rattle.digits.proofs as of_digits
pub use Rattle.digits.proofs.of_utf8 as of_utf8
