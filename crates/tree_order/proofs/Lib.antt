pub mod Opening
pub use Rattle.tree_report.proofs as of_tree_report
