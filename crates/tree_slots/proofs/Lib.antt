pub mod Zeros
pub mod Ends
pub mod Presence
pub use Rattle.tree_report.proofs.of_area as of_area
pub use Rattle.tree_report.proofs.of_schema as of_schema
pub use Rattle.tree_report.proofs.of_text_filter as of_text_filter
pub use Rattle.tree_report.proofs.of_timestamp as of_timestamp
pub use Rattle.tree_report.proofs.of_tree_record as of_tree_record
pub use Rattle.tree_report.proofs as of_tree_report
pub use Rattle.tree_report.proofs.of_tree_status as of_tree_status
pub use Rattle.tree_report.proofs.of_utf8 as of_utf8
