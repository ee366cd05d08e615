pub mod Records
pub mod Killing
pub mod Listing
pub mod Areas
pub mod Refusing
pub mod Plans
pub mod Examples
pub use Rattle.trim.proofs.of_area as of_area
pub use Rattle.read_attributes.proofs.of_read_element as of_read_element
pub use Rattle.read_place.proofs as of_read_place
pub use Rattle.read_place.proofs.of_read_state as of_read_state
pub use Rattle.read_attributes.proofs.of_reference as of_reference
pub use Rattle.read_rules.proofs.of_table as of_table
pub use Rattle.read_attributes.proofs.of_tree_put as of_tree_put
pub use Rattle.read_rules.proofs.of_tree_record as of_tree_record
pub use Rattle.read_attributes.proofs.of_tree_report as of_tree_report
pub use Rattle.read_rules.proofs.of_tree_status as of_tree_status
pub use Rattle.trim.proofs as of_trim
pub use Rattle.trim.proofs.of_utf8 as of_utf8
