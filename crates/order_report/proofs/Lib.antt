pub mod Sums
pub mod Names
pub mod Items
pub use Rattle.write_answer.proofs.of_area as of_area
pub use Rattle.write_answer.proofs.of_digits as of_digits
pub use Rattle.write_answer.proofs.of_tree_report as of_tree_report
pub use Rattle.write_answer.proofs.of_utf8 as of_utf8
pub use Rattle.write_answer.proofs.of_write_table as of_write_table
