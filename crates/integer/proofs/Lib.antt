pub mod Integers
pub mod Examples
pub use Rattle.names.proofs.of_area as of_area
pub use Rattle.names.proofs as of_names
pub use Rattle.digits.proofs.of_utf8 as of_utf8
