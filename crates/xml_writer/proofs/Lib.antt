pub mod Documents
pub mod Leaving
pub mod Answered
pub use Rattle.writer.proofs.of_area as of_area
