pub mod Storing
pub mod Spelling
pub use Rattle.write_codes.proofs.of_area as of_area
pub use Rattle.write_bytes.proofs.of_list_text as of_list_text
pub use Rattle.write_codes.proofs.of_write_items as of_write_items
pub use Rattle.write_form.proofs.of_write_table as of_write_table
