pub mod Places
pub mod Begun
pub use Rattle.xml_tokens.specs as of_xml_tokens
