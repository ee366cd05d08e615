pub mod Areas
pub mod Looping
pub mod Whole
pub use Rattle.clearing.proofs.of_area as of_area
pub use Rattle.read_step.proofs.of_read_element as of_read_element
pub use Rattle.read_step.proofs.of_read_machine as of_read_machine
pub use Rattle.read_step.proofs.of_read_path as of_read_path
