pub mod Grammar
pub mod Events
pub mod Documents
pub use Rattle.names.specs.of_area as of_area
pub use Rattle.names.specs as of_names
pub use Rattle.names.specs.of_refusal as of_refusal
pub use Rattle.table.specs as of_table
pub use Rattle.xml_chars.specs.of_utf8 as of_utf8
pub use Rattle.xml_chars.specs as of_xml_chars
