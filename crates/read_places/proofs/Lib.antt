mod Placing
pub mod Noting
pub use Rattle.read_element.proofs.of_area as of_area
pub use Rattle.read_element.proofs as of_read_element
pub use Rattle.read_element.proofs.of_reference as of_reference
pub use Rattle.read_element.proofs.of_table as of_table
pub use Rattle.read_element.proofs.of_tree_put as of_tree_put
pub use Rattle.read_element.proofs.of_tree_report as of_tree_report
