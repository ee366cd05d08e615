pub mod EndNames
pub use Rattle.xml_state.proofs.of_xml_chars as of_xml_chars
