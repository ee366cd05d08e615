pub mod Turning
pub use Rattle.refusal.proofs as of_refusal
pub use Rattle.tree_status.proofs.of_tree_record as of_tree_record
pub use Rattle.tree_status.proofs as of_tree_status
