pub mod Examples
pub use Rattle.write_report.proofs.of_area as of_area
pub use Rattle.write_report.proofs.of_digits as of_digits
pub use Rattle.write_report.proofs.of_text_filter as of_text_filter
pub use Rattle.write_report.proofs.of_tree_report as of_tree_report
pub use Rattle.write_report.proofs.of_utf8 as of_utf8
pub use Rattle.write_table.proofs as of_write_table
