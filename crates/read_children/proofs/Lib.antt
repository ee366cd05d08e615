pub mod Children
pub use Rattle.read_state.proofs as of_read_state
pub use Rattle.read_state.proofs.of_refusal as of_refusal
pub use Rattle.table.proofs as of_table
pub use Rattle.read_state.proofs.of_tree_record as of_tree_record
pub use Rattle.read_state.proofs.of_tree_status as of_tree_status
