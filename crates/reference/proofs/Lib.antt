mod Naming
pub mod Letters
pub mod Sizes
pub mod Behind
pub mod Decoding
mod Checking
pub mod Keeping
mod Examples
pub use Rattle.digits.proofs as of_digits
pub use Rattle.names.proofs as of_names
