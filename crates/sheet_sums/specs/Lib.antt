pub mod Sheet
pub mod AnyOrder
pub mod inside
pub use Rattle.tree_counts.specs as of_tree_counts
