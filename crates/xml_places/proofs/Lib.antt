pub mod Going
pub mod Putting
pub mod Markup
pub mod Attributes
pub mod Tags
pub mod Elements
pub mod Documents
pub mod Placed
pub mod Broken
pub mod Examples
pub use Rattle.xml_tokens.proofs.of_xml_complete as of_xml_complete
pub use Rattle.xml_tokens.proofs as of_xml_tokens
