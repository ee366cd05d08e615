pub mod Laws
pub use Rattle.xml_state.proofs.of_xml_chars as of_xml_chars
pub use Rattle.xml_state.proofs.of_xml_machine as of_xml_machine
pub use Rattle.xml_state.proofs.of_xml_stack as of_xml_stack
