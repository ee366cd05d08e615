pub mod Filling
pub mod Walking
pub mod Whole
pub use Rattle.tree_shape.proofs.of_area as of_area
pub use Rattle.tree_shape.proofs.of_schema as of_schema
pub use Rattle.tree_shape.proofs.of_text_filter as of_text_filter
pub use Rattle.tree_shape.proofs.of_timestamp as of_timestamp
pub use Rattle.tree_order.proofs.of_tree_report as of_tree_report
pub use Rattle.tree_shape.proofs as of_tree_shape
pub use Rattle.tree_shape.proofs.of_utf8 as of_utf8
