pub use Rattle.xml_grammar.specs.of_area as of_area
pub use Rattle.xml_grammar.specs.of_names as of_names
pub use Rattle.xml_grammar.specs.of_refusal as of_refusal
pub use Rattle.xml_grammar.specs.of_table as of_table
pub use Rattle.xml_grammar.specs.of_utf8 as of_utf8
pub use Rattle.xml_grammar.specs.of_xml_chars as of_xml_chars
pub use Rattle.xml_grammar.specs as of_xml_grammar
pub use Rattle.xml_machine.specs as of_xml_machine
