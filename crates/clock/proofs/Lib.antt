mod Clocks
pub use Rattle.fixed.proofs as of_fixed
