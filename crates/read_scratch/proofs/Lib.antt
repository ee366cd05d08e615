pub use Rattle.read_content.proofs as of_read_content
pub use Rattle.read_content.proofs.of_read_element as of_read_element
pub use Rattle.read_content.proofs.of_table as of_table
