pub mod Rehearsal
pub mod Answer
pub mod inside
pub use Rattle.write_answer.specs.of_area as of_area
pub use Rattle.write_answer.specs.of_digits as of_digits
pub use Rattle.write_answer.specs.of_escape as of_escape
pub use Rattle.write_answer.specs.of_names as of_names
pub use Rattle.write_answer.specs.of_refusal as of_refusal
pub use Rattle.write_answer.specs.of_table as of_table
pub use Rattle.write_answer.specs.of_text_filter as of_text_filter
pub use Rattle.write_answer.specs.of_timestamp as of_timestamp
pub use Rattle.write_answer.specs.of_tree_report as of_tree_report
pub use Rattle.write_answer.specs.of_utf8 as of_utf8
pub use Rattle.write_answer.specs as of_write_answer
pub use Rattle.write_answer.specs.of_write_escape as of_write_escape
pub use Rattle.write_items.specs as of_write_items
pub use Rattle.write_answer.specs.of_write_report as of_write_report
pub use Rattle.write_answer.specs.of_write_table as of_write_table
