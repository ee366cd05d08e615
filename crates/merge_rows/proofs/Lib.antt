pub mod Splicing
pub mod Slots
pub mod Rows
pub mod Steps
pub use Rattle.write_bytes.proofs.of_area as of_area
pub use Rattle.tree_merge.proofs.of_list_sums as of_list_sums
pub use Rattle.tree_merge.proofs.of_list_values as of_list_values
pub use Rattle.write_bytes.proofs.of_schema as of_schema
pub use Rattle.tree_merge.proofs.of_tree_layout as of_tree_layout
pub use Rattle.write_bytes.proofs.of_tree_report as of_tree_report
