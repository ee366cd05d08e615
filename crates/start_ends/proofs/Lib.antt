pub use Rattle.tree_stamp.proofs.of_days as of_days
pub use Rattle.span.proofs.of_instant as of_instant
pub use Rattle.span.proofs as of_span
pub use Rattle.tree_stamp.proofs as of_tree_stamp
