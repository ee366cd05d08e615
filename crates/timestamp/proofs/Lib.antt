pub mod Leaves
pub mod Fractions
pub mod Forms
pub mod Answers
pub mod Ranges
pub mod Examples
pub use Rattle.names.proofs.of_area as of_area
pub use Rattle.names.proofs as of_names
pub use Rattle.fraction.proofs.of_utf8 as of_utf8
