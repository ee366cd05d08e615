pub mod Filling
pub mod Inputs
pub use Rattle.area.proofs as of_area
