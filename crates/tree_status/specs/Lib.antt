pub mod Status
pub use Rattle.tree_record.specs as of_tree_record
