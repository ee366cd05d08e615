pub mod Answer
pub mod inside
pub use Rattle.merge_records.specs.of_starts as of_starts
pub use Rattle.merge_head.specs.of_tree_merge as of_tree_merge
