pub mod Numbers
pub use Rattle.instant.proofs as of_instant
