pub use Rattle.list_text.proofs.of_area as of_area
pub use Rattle.list_text.proofs as of_list_text
pub use Rattle.list_text.proofs.of_schema as of_schema
pub use Rattle.list_text.proofs.of_tree_report as of_tree_report
