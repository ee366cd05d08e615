pub mod Booleans
pub mod Reading
pub mod Spaces
pub mod Names
pub mod References
pub mod Tags
pub mod TagsTold
pub mod Pieces
pub mod CharacterData
pub mod Comments
pub mod Targets
pub mod Instructions
pub mod Literals
pub mod Elements
pub mod Declarations
pub mod Documents
pub mod Complete
pub use Rattle.xml_grammar.proofs.of_table as of_table
pub use Rattle.xml_grammar.proofs.of_xml_chars as of_xml_chars
pub use Rattle.xml_machine.proofs as of_xml_machine
