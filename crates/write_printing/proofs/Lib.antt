pub mod Printing
pub mod Trees
pub mod Reports
mod Examples
pub use Rattle.list_printing.proofs.of_list_input as of_list_input
pub use Rattle.list_printing.proofs as of_list_printing
