pub mod Rules
pub use Rattle.read_children.specs.of_names as of_names
pub use Rattle.read_children.specs.of_refusal as of_refusal
pub use Rattle.read_children.specs.of_table as of_table
pub use Rattle.read_children.specs.of_tree_record as of_tree_record
pub use Rattle.read_children.specs.of_tree_status as of_tree_status
