pub mod Walking
pub mod Order
pub mod Winning
pub mod FirstLast
pub mod Values
pub mod Whole
pub mod Examples
pub use Rattle.tree_layout.proofs.of_area as of_area
pub use Rattle.list_sums.proofs as of_list_sums
pub use Rattle.list_values.proofs as of_list_values
pub use Rattle.tree_layout.proofs.of_schema as of_schema
pub use Rattle.start_ends.proofs.of_span as of_span
pub use Rattle.tree_layout.proofs.of_text_filter as of_text_filter
pub use Rattle.tree_layout.proofs as of_tree_layout
pub use Rattle.tree_layout.proofs.of_tree_report as of_tree_report
pub use Rattle.start_ends.proofs.of_tree_stamp as of_tree_stamp
pub use Rattle.tree_layout.proofs.of_utf8 as of_utf8
