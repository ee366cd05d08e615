pub mod Parts
pub mod Replacing
pub mod Putting
pub mod Maximal
pub mod Examples
pub use Rattle.utf8.proofs.of_area as of_area
