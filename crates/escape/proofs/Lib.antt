pub mod Spelling
pub mod Escaping
pub mod Examples
pub use Rattle.copying.proofs as of_copying
