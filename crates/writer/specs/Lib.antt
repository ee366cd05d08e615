pub mod Answer
pub use Rattle.area.specs as of_area
pub use Rattle.write_document.specs.of_names as of_names
pub use Rattle.refusal.specs as of_refusal
pub use Rattle.write_document.specs.of_table as of_table
pub use Rattle.tree_layout.specs.of_tree_report as of_tree_report
pub use Rattle.write_answer.specs as of_write_answer
pub use Rattle.write_marks.specs as of_write_marks
pub use Rattle.write_answer.specs.of_write_report as of_write_report
pub use Rattle.write_answer.specs.of_write_table as of_write_table
