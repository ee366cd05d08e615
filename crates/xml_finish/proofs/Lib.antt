pub mod Finish
pub mod Closing
pub mod Declared
pub mod Finished
pub mod Viable
pub mod GoesOn
pub use Rattle.xml_machine.proofs as of_xml_machine
