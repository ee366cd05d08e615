pub mod Line
pub mod Answered
mod Examples
pub use Rattle.explain_sentence.proofs.of_time_text as of_time_text
