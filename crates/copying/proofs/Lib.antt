pub mod Copying
pub mod Covering
pub use Rattle.area.proofs as of_area
