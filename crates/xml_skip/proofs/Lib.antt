pub mod Loose
pub mod Mild
pub mod Naming
pub mod Passing
pub mod Widths
pub use Rattle.xml_agree.proofs as of_xml_agree
pub use Rattle.xml_records.proofs as of_xml_records
