pub mod Documents
pub use Rattle.list_sums.proofs as of_list_sums
pub use Rattle.list_sums.proofs.of_list_text as of_list_text
pub use Rattle.write_entries.proofs.of_list_values as of_list_values
pub use Rattle.write_marks.proofs.of_write_table as of_write_table
