pub mod Answer
pub use Rattle.explain_sentence.specs.of_explain_text as of_explain_text
pub use Rattle.explain_sentence.specs.of_time_text as of_time_text
pub use Rattle.explain_sentence.specs.of_timestamp as of_timestamp
pub use Rattle.explain_sentence.specs.of_tree_report as of_tree_report
pub use Rattle.explain_sentence.specs.of_uuids as of_uuids
