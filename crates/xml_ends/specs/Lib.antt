pub use Rattle.xml_put.specs.of_area as of_area
pub use Rattle.xml_put.specs.of_names as of_names
pub use Rattle.xml_put.specs.of_table as of_table
pub use Rattle.xml_put.specs.of_tree_record as of_tree_record
pub use Rattle.xml_put.specs.of_utf8 as of_utf8
pub use Rattle.xml_put.specs.of_xml_chars as of_xml_chars
pub use Rattle.xml_put.specs.of_xml_machine as of_xml_machine
pub use Rattle.xml_put.specs.of_xml_state as of_xml_state
