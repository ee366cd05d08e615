pub mod Showing
pub mod Hunting
pub mod Naming
pub use Rattle.explain_lines.proofs as of_explain_lines
pub use Rattle.explain_text.proofs.of_list_text as of_list_text
