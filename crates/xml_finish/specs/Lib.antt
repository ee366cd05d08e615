pub use Rattle.xml_machine.specs.of_area as of_area
pub use Rattle.xml_machine.specs.of_names as of_names
pub use Rattle.xml_machine.specs.of_refusal as of_refusal
pub use Rattle.xml_machine.specs.of_table as of_table
pub use Rattle.xml_machine.specs.of_xml_chars as of_xml_chars
pub use Rattle.xml_machine.specs as of_xml_machine
