pub mod Starts
pub mod Answer
pub mod FirstLast
pub mod inside
pub use Rattle.tree_layout.specs.of_area as of_area
pub use Rattle.tree_layout.specs.of_calendar as of_calendar
pub use Rattle.start_ends.specs.of_days as of_days
pub use Rattle.start_ends.specs.of_instant as of_instant
pub use Rattle.list_sums.specs as of_list_sums
pub use Rattle.tree_layout.specs.of_schema as of_schema
pub use Rattle.start_ends.specs.of_span as of_span
pub use Rattle.tree_layout.specs.of_text_filter as of_text_filter
pub use Rattle.tree_layout.specs.of_timestamp as of_timestamp
pub use Rattle.tree_layout.specs.of_tree_record as of_tree_record
pub use Rattle.tree_layout.specs.of_tree_report as of_tree_report
pub use Rattle.start_ends.specs.of_tree_stamp as of_tree_stamp
pub use Rattle.tree_layout.specs.of_tree_status as of_tree_status
pub use Rattle.tree_layout.specs.of_utf8 as of_utf8
