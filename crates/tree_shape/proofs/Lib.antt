pub mod Bits
pub mod Presence
pub use Rattle.tree_moments.proofs.of_area as of_area
pub use Rattle.tree_moments.proofs.of_schema as of_schema
pub use Rattle.tree_moments.proofs.of_text_filter as of_text_filter
pub use Rattle.tree_moments.proofs.of_timestamp as of_timestamp
pub use Rattle.tree_moments.proofs.of_tree_slots as of_tree_slots
pub use Rattle.tree_moments.proofs.of_tree_status as of_tree_status
pub use Rattle.tree_moments.proofs.of_utf8 as of_utf8
