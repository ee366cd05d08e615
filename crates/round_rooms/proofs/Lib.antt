pub mod Suiting
pub mod Elements
pub mod Scratch
pub mod Actions
pub mod Sufficing
pub mod Alike
pub mod AlikeElements
pub mod AlikeSteps
pub mod Sparing
pub mod Covering
pub mod Written
pub use Rattle.read_machine.proofs.of_read_element as of_read_element
pub use Rattle.read_machine.proofs as of_read_machine
pub use Rattle.write_report.proofs.of_tree_report as of_tree_report
