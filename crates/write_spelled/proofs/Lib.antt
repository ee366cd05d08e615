pub use Rattle.names.proofs.of_area as of_area
