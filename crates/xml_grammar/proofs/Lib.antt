pub mod Examples
pub use Rattle.table.proofs as of_table
pub use Rattle.xml_chars.proofs as of_xml_chars
