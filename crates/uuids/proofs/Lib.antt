pub mod Forms
pub mod Examples
pub use Rattle.fixed.proofs.of_utf8 as of_utf8
