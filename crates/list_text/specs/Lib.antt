pub mod Listing
pub mod inside
pub use Rattle.time_text.specs.of_area as of_area
pub use Rattle.time_text.specs.of_digits as of_digits
pub use Rattle.escape.specs as of_escape
pub use Rattle.tree_report.specs.of_names as of_names
pub use Rattle.time_text.specs.of_refusal as of_refusal
pub use Rattle.tree_report.specs.of_schema as of_schema
pub use Rattle.tree_report.specs.of_text_filter as of_text_filter
pub use Rattle.time_text.specs.of_time as of_time
pub use Rattle.time_text.specs as of_time_text
pub use Rattle.tree_report.specs.of_timestamp as of_timestamp
pub use Rattle.tree_report.specs.of_tree_record as of_tree_record
pub use Rattle.tree_report.specs as of_tree_report
pub use Rattle.tree_report.specs.of_uuids as of_uuids
