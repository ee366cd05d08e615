pub mod Points
pub mod Times
pub mod Examples
pub use Rattle.fraction.proofs.of_area as of_area
pub use Rattle.fraction.proofs.of_digits as of_digits
