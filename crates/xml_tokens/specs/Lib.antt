pub mod Due
pub use Rattle.xml_complete.specs.of_names as of_names
pub use Rattle.xml_complete.specs.of_table as of_table
pub use Rattle.xml_complete.specs.of_utf8 as of_utf8
pub use Rattle.xml_complete.specs.of_xml_chars as of_xml_chars
pub use Rattle.xml_complete.specs.of_xml_grammar as of_xml_grammar
pub use Rattle.xml_complete.specs.of_xml_machine as of_xml_machine
