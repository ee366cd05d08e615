pub mod Outcome
pub mod Attributes
pub mod inside
pub use Rattle.integer.specs.of_area as of_area
pub use Rattle.integer.specs.of_digits as of_digits
pub use Rattle.integer.specs as of_integer
pub use Rattle.integer.specs.of_names as of_names
pub use Rattle.read_keys.specs as of_read_keys
pub use Rattle.text.specs.of_reference as of_reference
pub use Rattle.integer.specs.of_refusal as of_refusal
pub use Rattle.tree_report.specs.of_schema as of_schema
pub use Rattle.table.specs as of_table
pub use Rattle.text.specs as of_text
pub use Rattle.text.specs.of_text_filter as of_text_filter
pub use Rattle.time.specs as of_time
pub use Rattle.tree_put.specs.of_timestamp as of_timestamp
pub use Rattle.tree_put.specs as of_tree_put
pub use Rattle.tree_put.specs.of_tree_record as of_tree_record
pub use Rattle.tree_report.specs as of_tree_report
pub use Rattle.integer.specs.of_utf8 as of_utf8
pub use Rattle.tree_put.specs.of_uuids as of_uuids
