pub mod MiscStar
pub mod Tokenizing
pub use Rattle.xml_places.specs.of_xml_tokens as of_xml_tokens
