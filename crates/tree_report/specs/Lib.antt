pub mod Fields
pub mod Report
pub mod Layout
pub mod ReportOf
pub mod Encode
pub mod inside
pub use Rattle.schema.specs.of_area as of_area
pub use Rattle.schema.specs.of_calendar as of_calendar
pub use Rattle.schema.specs.of_digits as of_digits
pub use Rattle.schema.specs.of_names as of_names
pub use Rattle.schema.specs.of_refusal as of_refusal
pub use Rattle.schema.specs as of_schema
pub use Rattle.schema.specs.of_text_filter as of_text_filter
pub use Rattle.schema.specs.of_timestamp as of_timestamp
pub use Rattle.tree_status.specs.of_tree_record as of_tree_record
pub use Rattle.tree_status.specs as of_tree_status
pub use Rattle.schema.specs.of_utf8 as of_utf8
pub use Rattle.schema.specs.of_uuids as of_uuids
