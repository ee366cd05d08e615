mod Faults
pub use Rattle.read_extra_record.proofs.of_integer as of_integer
pub use Rattle.read_extra_record.proofs.of_read_element as of_read_element
pub use Rattle.read_extra_record.proofs.of_read_keys as of_read_keys
pub use Rattle.read_extra_record.proofs.of_tree_put as of_tree_put
pub use Rattle.read_extra_record.proofs.of_tree_report as of_tree_report
