pub use Rattle.tree_values.proofs.of_tree_put as of_tree_put
