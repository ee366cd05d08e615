pub mod Table
pub use Rattle.explain_text.proofs.of_list_text as of_list_text
pub use Rattle.explain_text.proofs.of_time_text as of_time_text
