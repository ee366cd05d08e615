pub mod Answer
pub mod inside
pub use Rattle.writer.specs.of_area as of_area
pub use Rattle.xml_answer.specs.of_list_text as of_list_text
pub use Rattle.writer.specs.of_refusal as of_refusal
pub use Rattle.writer.specs.of_tree_report as of_tree_report
pub use Rattle.writer.specs.of_write_answer as of_write_answer
pub use Rattle.writer.specs as of_writer
pub use Rattle.xml_answer.specs as of_xml_answer
