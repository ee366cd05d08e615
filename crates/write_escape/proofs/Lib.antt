pub mod Escaping
pub mod Putting
pub mod Blocks
pub mod Keeping
pub mod Examples
pub use Rattle.escape.proofs as of_escape
pub use Rattle.utf8.proofs as of_utf8
