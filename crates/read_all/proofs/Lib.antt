mod Wider
mod Marked
pub use Rattle.read_indexed.proofs.of_area as of_area
pub use Rattle.read_indexed.proofs.of_read_each as of_read_each
pub use Rattle.read_indexed.proofs.of_read_element as of_read_element
pub use Rattle.read_indexed.proofs.of_read_free as of_read_free
pub use Rattle.read_indexed.proofs.of_reference as of_reference
pub use Rattle.read_indexed.proofs.of_tree_put as of_tree_put
pub use Rattle.read_indexed.proofs.of_tree_report as of_tree_report
