pub mod Places
pub mod Steps
pub mod Settling
pub mod Examples
pub use Rattle.text_lossy.proofs.of_area as of_area
pub use Rattle.text_lossy.proofs as of_text_lossy
pub use Rattle.tree_counts.proofs as of_tree_counts
