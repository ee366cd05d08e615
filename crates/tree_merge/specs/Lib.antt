pub mod Merged
pub mod Moved
pub mod Answer
pub use Rattle.starts.specs.of_area as of_area
pub use Rattle.starts.specs.of_calendar as of_calendar
pub use Rattle.starts.specs.of_days as of_days
pub use Rattle.starts.specs.of_instant as of_instant
pub use Rattle.starts.specs.of_list_sums as of_list_sums
pub use Rattle.tree_counts.specs.of_refusal as of_refusal
pub use Rattle.starts.specs.of_schema as of_schema
pub use Rattle.starts.specs.of_span as of_span
pub use Rattle.starts.specs as of_starts
pub use Rattle.starts.specs.of_text_filter as of_text_filter
pub use Rattle.starts.specs.of_timestamp as of_timestamp
pub use Rattle.tree_counts.specs as of_tree_counts
pub use Rattle.starts.specs.of_tree_record as of_tree_record
pub use Rattle.starts.specs.of_tree_report as of_tree_report
pub use Rattle.starts.specs.of_tree_stamp as of_tree_stamp
pub use Rattle.starts.specs.of_tree_status as of_tree_status
pub use Rattle.starts.specs.of_utf8 as of_utf8
