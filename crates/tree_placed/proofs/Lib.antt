pub mod Flags
pub mod Putting
pub mod Fronts
pub mod Growing
pub mod Changing
pub mod Records
pub mod Whole
pub mod Examples
pub use Rattle.tree_put.proofs.of_area as of_area
pub use Rattle.tree_put.proofs.of_names as of_names
pub use Rattle.tree_report.proofs.of_schema as of_schema
pub use Rattle.tree_report.proofs.of_text_filter as of_text_filter
pub use Rattle.tree_put.proofs.of_timestamp as of_timestamp
pub use Rattle.tree_put.proofs.of_tree_record as of_tree_record
pub use Rattle.tree_report.proofs as of_tree_report
pub use Rattle.tree_put.proofs.of_utf8 as of_utf8
