pub mod Sentences
pub mod Explanation
pub use Rattle.text.specs.of_area as of_area
pub use Rattle.text.specs.of_digits as of_digits
pub use Rattle.list_text.specs.of_escape as of_escape
pub use Rattle.list_text.specs as of_list_text
pub use Rattle.text.specs.of_names as of_names
pub use Rattle.text.specs.of_reference as of_reference
pub use Rattle.text.specs.of_refusal as of_refusal
pub use Rattle.table.specs as of_table
pub use Rattle.text.specs as of_text
pub use Rattle.text.specs.of_text_filter as of_text_filter
pub use Rattle.list_text.specs.of_time as of_time
pub use Rattle.list_text.specs.of_time_text as of_time_text
pub use Rattle.list_text.specs.of_timestamp as of_timestamp
pub use Rattle.list_text.specs.of_tree_record as of_tree_record
pub use Rattle.list_text.specs.of_tree_report as of_tree_report
pub use Rattle.text.specs.of_utf8 as of_utf8
pub use Rattle.list_text.specs.of_uuids as of_uuids
