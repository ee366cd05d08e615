pub mod Answer
pub use Rattle.write_report.specs.of_area as of_area
pub use Rattle.write_report.specs.of_digits as of_digits
pub use Rattle.write_report.specs.of_escape as of_escape
pub use Rattle.write_report.specs.of_names as of_names
pub use Rattle.write_report.specs.of_refusal as of_refusal
pub use Rattle.write_report.specs.of_table as of_table
pub use Rattle.write_report.specs.of_text_filter as of_text_filter
pub use Rattle.write_report.specs.of_timestamp as of_timestamp
pub use Rattle.write_report.specs.of_tree_report as of_tree_report
pub use Rattle.write_report.specs.of_utf8 as of_utf8
pub use Rattle.write_report.specs.of_write_escape as of_write_escape
pub use Rattle.write_report.specs.of_write_moment as of_write_moment
pub use Rattle.write_report.specs as of_write_report
pub use Rattle.write_table.specs.of_write_spelled as of_write_spelled
pub use Rattle.write_table.specs as of_write_table
pub use Rattle.write_report.specs.of_write_uuid as of_write_uuid
