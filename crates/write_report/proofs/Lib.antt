pub mod HostFirst
pub use Rattle.time_text.proofs.of_area as of_area
pub use Rattle.time_text.proofs.of_digits as of_digits
pub use Rattle.table.proofs as of_table
pub use Rattle.tree_report.proofs.of_text_filter as of_text_filter
pub use Rattle.time_text.proofs as of_time_text
pub use Rattle.tree_report.proofs as of_tree_report
pub use Rattle.write_escape.proofs.of_utf8 as of_utf8
