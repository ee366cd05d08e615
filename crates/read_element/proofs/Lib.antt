pub mod Rooms
pub mod RoomsNumbers
pub mod TreeOutcome
pub mod TreeBits
pub mod TreeSheet
pub mod TreeGood
pub mod TreeRoles
pub mod TreeElement
pub mod Taking
pub mod Examples
pub use Rattle.integer.proofs.of_area as of_area
pub use Rattle.integer.proofs as of_integer
pub use Rattle.integer.proofs.of_names as of_names
pub use Rattle.read_keys.proofs as of_read_keys
pub use Rattle.text.proofs.of_reference as of_reference
pub use Rattle.table.proofs as of_table
pub use Rattle.text.proofs as of_text
pub use Rattle.tree_put.proofs as of_tree_put
pub use Rattle.tree_put.proofs.of_tree_record as of_tree_record
pub use Rattle.tree_report.proofs as of_tree_report
