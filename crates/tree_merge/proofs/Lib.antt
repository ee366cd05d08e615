pub mod Records
pub use Rattle.starts.proofs.of_area as of_area
pub use Rattle.starts.proofs.of_list_sums as of_list_sums
pub use Rattle.starts.proofs.of_list_values as of_list_values
pub use Rattle.starts.proofs.of_schema as of_schema
pub use Rattle.starts.proofs.of_span as of_span
pub use Rattle.starts.proofs.of_text_filter as of_text_filter
pub use Rattle.starts.proofs.of_tree_layout as of_tree_layout
pub use Rattle.starts.proofs.of_tree_report as of_tree_report
pub use Rattle.starts.proofs.of_tree_stamp as of_tree_stamp
pub use Rattle.starts.proofs.of_utf8 as of_utf8
