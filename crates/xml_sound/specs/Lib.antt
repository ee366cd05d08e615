pub use Rattle.xml_grammar.specs as of_xml_grammar
