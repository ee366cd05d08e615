pub mod XmlFit
pub mod Needed
pub use Rattle.document_events.specs as of_document_events
pub use Rattle.round_elements.specs as of_round_elements
pub use Rattle.xml_grammar.specs as of_xml_grammar
pub use Rattle.xml_machine.specs as of_xml_machine
