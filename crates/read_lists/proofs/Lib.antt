pub mod Marking
pub use Rattle.read_content.proofs.of_area as of_area
pub use Rattle.read_content.proofs as of_read_content
pub use Rattle.read_content.proofs.of_read_element as of_read_element
pub use Rattle.read_content.proofs.of_tree_put as of_tree_put
pub use Rattle.read_content.proofs.of_tree_record as of_tree_record
pub use Rattle.read_content.proofs.of_tree_report as of_tree_report
