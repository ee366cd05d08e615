pub mod Spelling
pub mod Texts
pub mod Examples
pub use Rattle.timestamp.proofs as of_timestamp
