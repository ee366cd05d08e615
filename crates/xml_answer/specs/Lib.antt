pub mod Answer
pub mod Cases
pub use Rattle.list_text.specs.of_area as of_area
pub use Rattle.list_text.specs as of_list_text
pub use Rattle.list_text.specs.of_refusal as of_refusal
pub use Rattle.write_answer.specs.of_table as of_table
pub use Rattle.list_text.specs.of_tree_report as of_tree_report
pub use Rattle.write_answer.specs as of_write_answer
pub use Rattle.write_answer.specs.of_write_report as of_write_report
pub use Rattle.write_answer.specs.of_write_spelled as of_write_spelled
pub use Rattle.write_answer.specs.of_write_table as of_write_table
