pub use Rattle.area.proofs as of_area
