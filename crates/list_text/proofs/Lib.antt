pub mod Putting
pub mod Answering
mod Examples
pub use Rattle.time_text.proofs.of_area as of_area
pub use Rattle.time_text.proofs.of_digits as of_digits
pub use Rattle.escape.proofs as of_escape
pub use Rattle.tree_report.proofs.of_schema as of_schema
pub use Rattle.time_text.proofs as of_time_text
pub use Rattle.tree_report.proofs as of_tree_report
