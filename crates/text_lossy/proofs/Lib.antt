pub mod Storing
pub mod Examples
pub use Rattle.utf8_lossy.proofs.of_area as of_area
