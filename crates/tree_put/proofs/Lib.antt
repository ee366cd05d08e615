pub mod Puts
pub mod Examples
pub use Rattle.timestamp.proofs.of_area as of_area
pub use Rattle.timestamp.proofs.of_names as of_names
pub use Rattle.timestamp.proofs as of_timestamp
pub use Rattle.tree_record.proofs as of_tree_record
pub use Rattle.timestamp.proofs.of_utf8 as of_utf8
