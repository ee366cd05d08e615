pub mod Printed
pub use Rattle.list_printing.specs.of_list_input as of_list_input
