pub mod Put
pub use Rattle.timestamp.specs.of_area as of_area
pub use Rattle.timestamp.specs.of_calendar as of_calendar
pub use Rattle.timestamp.specs.of_digits as of_digits
pub use Rattle.timestamp.specs.of_names as of_names
pub use Rattle.timestamp.specs.of_refusal as of_refusal
pub use Rattle.timestamp.specs as of_timestamp
pub use Rattle.tree_record.specs as of_tree_record
pub use Rattle.timestamp.specs.of_utf8 as of_utf8
pub use Rattle.uuids.specs as of_uuids
