pub mod Acting
pub mod Performing
pub use Rattle.read_texts.proofs.of_read_content as of_read_content
pub use Rattle.read_texts.proofs.of_read_element as of_read_element
pub use Rattle.read_texts.proofs.of_read_place as of_read_place
pub use Rattle.read_texts.proofs.of_read_state as of_read_state
pub use Rattle.read_texts.proofs.of_table as of_table
pub use Rattle.read_texts.proofs.of_tree_status as of_tree_status
