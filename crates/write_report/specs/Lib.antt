pub mod Written
pub mod AsCrate
pub use Rattle.time_text.specs.of_area as of_area
pub use Rattle.time_text.specs.of_digits as of_digits
pub use Rattle.write_escape.specs.of_escape as of_escape
pub use Rattle.write_escape.specs.of_names as of_names
pub use Rattle.time_text.specs.of_refusal as of_refusal
pub use Rattle.tree_report.specs.of_schema as of_schema
pub use Rattle.table.specs as of_table
pub use Rattle.tree_report.specs.of_text_filter as of_text_filter
pub use Rattle.time_text.specs as of_time_text
pub use Rattle.write_moment.specs.of_timestamp as of_timestamp
pub use Rattle.tree_report.specs.of_tree_record as of_tree_record
pub use Rattle.tree_report.specs as of_tree_report
pub use Rattle.write_escape.specs.of_utf8 as of_utf8
pub use Rattle.write_uuid.specs.of_uuids as of_uuids
pub use Rattle.write_escape.specs as of_write_escape
pub use Rattle.write_moment.specs as of_write_moment
pub use Rattle.write_uuid.specs as of_write_uuid
