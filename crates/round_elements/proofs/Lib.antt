pub mod Keys
pub mod Reading
pub mod Values
pub mod Rows
pub mod Steps
pub mod Places
pub mod Shown
pub mod Fits
pub mod Roles
pub mod Extras
pub mod Opening
pub mod Filled
pub mod Elements
pub mod Later
pub mod Gathered
mod Examples
pub use Rattle.write_back.proofs.of_escape as of_escape
pub use Rattle.read_machine.proofs.of_names as of_names
pub use Rattle.write_back.proofs.of_text as of_text
pub use Rattle.read_machine.proofs.of_text_filter as of_text_filter
pub use Rattle.write_report.proofs.of_tree_report as of_tree_report
pub use Rattle.read_machine.proofs.of_utf8 as of_utf8
pub use Rattle.write_back.proofs as of_write_back
pub use Rattle.write_back.proofs.of_write_escape as of_write_escape
pub use Rattle.write_table.proofs as of_write_table
