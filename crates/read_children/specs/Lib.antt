pub mod Children
pub use Rattle.names.specs as of_names
pub use Rattle.read_state.specs as of_read_state
pub use Rattle.read_state.specs.of_refusal as of_refusal
pub use Rattle.table.specs as of_table
pub use Rattle.read_state.specs.of_tree_record as of_tree_record
pub use Rattle.read_state.specs.of_tree_status as of_tree_status
