pub use Rattle.tree_put.proofs.of_area as of_area
pub use Rattle.tree_put.proofs.of_timestamp as of_timestamp
pub use Rattle.tree_put.proofs as of_tree_put
