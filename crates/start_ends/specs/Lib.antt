pub mod Nothing
pub mod inside
pub use Rattle.tree_stamp.specs.of_days as of_days
pub use Rattle.span.specs.of_instant as of_instant
pub use Rattle.span.specs as of_span
pub use Rattle.tree_stamp.specs as of_tree_stamp
