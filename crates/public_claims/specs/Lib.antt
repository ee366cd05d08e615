pub mod Agree
pub mod OwnStatus
pub mod PublicListing
pub mod Once
pub mod Demand3
pub mod OnValues
pub mod inside
pub use Rattle.read_report.specs.of_area as of_area
pub use Rattle.read_report.specs.of_calendar as of_calendar
pub use Rattle.read_report.specs.of_digits as of_digits
pub use Rattle.list_text.specs.of_escape as of_escape
pub use Rattle.read_report.specs.of_integer as of_integer
pub use Rattle.list_text.specs as of_list_text
pub use Rattle.read_report.specs.of_names as of_names
pub use Rattle.read_report.specs.of_read_content as of_read_content
pub use Rattle.read_report.specs.of_read_element as of_read_element
pub use Rattle.read_report.specs.of_read_keys as of_read_keys
pub use Rattle.read_report.specs.of_read_machine as of_read_machine
pub use Rattle.read_report.specs.of_read_place as of_read_place
pub use Rattle.read_report.specs as of_read_report
pub use Rattle.read_report.specs.of_read_rules as of_read_rules
pub use Rattle.read_report.specs.of_read_state as of_read_state
pub use Rattle.read_report.specs.of_reference as of_reference
pub use Rattle.read_report.specs.of_refusal as of_refusal
pub use Rattle.read_report.specs.of_schema as of_schema
pub use Rattle.read_report.specs.of_table as of_table
pub use Rattle.read_report.specs.of_time as of_time
pub use Rattle.list_text.specs.of_time_text as of_time_text
pub use Rattle.read_report.specs.of_timestamp as of_timestamp
pub use Rattle.read_report.specs.of_tree_record as of_tree_record
pub use Rattle.list_text.specs.of_tree_report as of_tree_report
pub use Rattle.read_report.specs.of_tree_status as of_tree_status
pub use Rattle.read_report.specs.of_utf8 as of_utf8
pub use Rattle.read_report.specs.of_uuids as of_uuids
