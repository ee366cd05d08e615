pub mod Filtering
mod Unchanged
mod Examples
pub use Rattle.utf8.proofs as of_utf8
