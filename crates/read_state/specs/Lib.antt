pub mod Control
pub mod inside
pub use Rattle.refusal.specs as of_refusal
pub use Rattle.tree_status.specs.of_tree_record as of_tree_record
pub use Rattle.tree_status.specs as of_tree_status
