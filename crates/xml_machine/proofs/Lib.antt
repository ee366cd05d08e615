pub mod Examples
pub mod Runs
pub mod Stays
pub mod Characters
pub mod Carries
pub mod Outcomes
pub use Rattle.names.proofs.of_area as of_area
pub use Rattle.xml_chars.proofs as of_xml_chars
