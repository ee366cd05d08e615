pub mod Tallies
pub mod Examples
pub use Rattle.tree_record.proofs as of_tree_record
