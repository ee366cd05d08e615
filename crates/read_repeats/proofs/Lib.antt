pub mod Keys
pub use Rattle.read_element.proofs.of_area as of_area
pub use Rattle.read_element.proofs.of_names as of_names
pub use Rattle.read_element.proofs.of_read_keys as of_read_keys
pub use Rattle.read_element.proofs.of_table as of_table
