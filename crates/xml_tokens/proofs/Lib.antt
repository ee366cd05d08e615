pub mod Rooms
pub mod Answers
pub mod Flat
pub mod Ranges
pub mod Tags
pub mod Parts
pub mod Numbering
pub mod Against
pub mod Telling
pub mod Tables
pub mod Examples
pub use Rattle.xml_complete.proofs.of_xml_chars as of_xml_chars
pub use Rattle.xml_complete.proofs as of_xml_complete
pub use Rattle.xml_complete.proofs.of_xml_machine as of_xml_machine
