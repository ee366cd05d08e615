pub use Rattle.xml_stack.proofs.of_area as of_area
pub use Rattle.xml_stack.proofs.of_xml_chars as of_xml_chars
pub use Rattle.xml_stack.proofs.of_xml_machine as of_xml_machine
pub use Rattle.xml_stack.proofs as of_xml_stack
