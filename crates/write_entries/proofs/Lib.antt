pub mod Entries
pub use Rattle.write_marks.proofs.of_area as of_area
pub use Rattle.write_marks.proofs.of_list_text as of_list_text
pub use Rattle.write_values.proofs.of_list_values as of_list_values
pub use Rattle.write_marks.proofs.of_write_table as of_write_table
