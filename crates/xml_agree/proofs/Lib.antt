pub mod Agreeing
pub mod Characters
pub mod Further
pub mod Words
pub mod Names
pub mod Records
pub mod Declaration
pub mod Misc
pub mod Content
pub mod Tags
pub mod Ends
pub mod Whole
pub use Rattle.xml_rep.proofs.of_xml_chars as of_xml_chars
pub use Rattle.xml_rep.proofs.of_xml_machine as of_xml_machine
