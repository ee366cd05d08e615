pub mod Places
pub mod Elements
pub mod Numbers
pub mod Bare
pub mod Pairs
pub mod Children
pub mod OverWords
mod ValueElements
mod ValueNumbers
pub mod ValueBare
mod ValueChildren
pub mod Spelled
pub mod Examples
pub use Rattle.read_report.proofs.of_read_element as of_read_element
pub use Rattle.read_report.proofs.of_read_machine as of_read_machine
pub use Rattle.read_report.proofs as of_read_report
pub use Rattle.read_report.proofs.of_reference as of_reference
pub use Rattle.read_report.proofs.of_tree_report as of_tree_report
pub use Rattle.read_report.proofs.of_utf8 as of_utf8
