pub mod Planning
pub mod Examples
pub use Rattle.read_children.proofs.of_refusal as of_refusal
pub use Rattle.read_children.proofs.of_table as of_table
pub use Rattle.read_children.proofs.of_tree_record as of_tree_record
pub use Rattle.read_children.proofs.of_tree_status as of_tree_status
