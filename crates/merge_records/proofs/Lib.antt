pub mod Counting
pub mod Copying
pub mod Good
pub use Rattle.merge_rows.proofs.of_list_sums as of_list_sums
pub use Rattle.merge_rows.proofs.of_list_values as of_list_values
pub use Rattle.merge_rows.proofs as of_merge_rows
pub use Rattle.merge_rows.proofs.of_schema as of_schema
pub use Rattle.merge_rows.proofs.of_tree_layout as of_tree_layout
pub use Rattle.merge_rows.proofs.of_tree_report as of_tree_report
