pub mod Gathering
pub use Rattle.fronting.proofs.of_area as of_area
pub use Rattle.read_scratch.proofs.of_read_element as of_read_element
pub use Rattle.read_scratch.proofs.of_table as of_table
