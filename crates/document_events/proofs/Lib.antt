pub use Rattle.read_content.proofs.of_reference as of_reference
pub use Rattle.read_content.proofs.of_tree_report as of_tree_report
pub use Rattle.read_content.proofs.of_utf8 as of_utf8
