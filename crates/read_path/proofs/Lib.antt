pub mod Leading
pub mod Lengths
pub mod Examples
pub use Rattle.read_fault.proofs.of_integer as of_integer
pub use Rattle.read_fault.proofs.of_read_element as of_read_element
pub use Rattle.read_fault.proofs.of_read_keys as of_read_keys
pub use Rattle.read_fault.proofs.of_tree_put as of_tree_put
pub use Rattle.read_rules.proofs.of_tree_record as of_tree_record
pub use Rattle.read_fault.proofs.of_tree_report as of_tree_report
