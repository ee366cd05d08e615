pub mod Pattern
pub mod Rounding
pub mod Sum
pub mod Spelling
pub mod ReadBack
pub mod Distance
pub mod Examples
pub mod DistanceExamples
pub use Rattle.time.proofs.of_area as of_area
pub use Rattle.time.proofs.of_digits as of_digits
