pub mod Plain
pub mod inside
pub use Rattle.read_machine.specs.of_area as of_area
pub use Rattle.read_machine.specs.of_names as of_names
pub use Rattle.read_machine.specs.of_read_content as of_read_content
pub use Rattle.read_machine.specs.of_read_element as of_read_element
pub use Rattle.read_machine.specs as of_read_machine
pub use Rattle.read_machine.specs.of_read_path as of_read_path
pub use Rattle.read_machine.specs.of_read_place as of_read_place
pub use Rattle.read_machine.specs.of_read_rules as of_read_rules
pub use Rattle.read_machine.specs.of_read_state as of_read_state
pub use Rattle.read_machine.specs.of_reference as of_reference
pub use Rattle.read_machine.specs.of_refusal as of_refusal
pub use Rattle.write_report.specs.of_table as of_table
pub use Rattle.read_machine.specs.of_text_filter as of_text_filter
pub use Rattle.write_report.specs.of_time_text as of_time_text
pub use Rattle.read_machine.specs.of_tree_put as of_tree_put
pub use Rattle.read_machine.specs.of_tree_record as of_tree_record
pub use Rattle.write_report.specs.of_tree_report as of_tree_report
pub use Rattle.read_machine.specs.of_tree_status as of_tree_status
pub use Rattle.read_machine.specs.of_trim as of_trim
pub use Rattle.read_machine.specs.of_utf8 as of_utf8
pub use Rattle.write_back.specs.of_write_escape as of_write_escape
pub use Rattle.write_back.specs.of_write_moment as of_write_moment
pub use Rattle.write_report.specs as of_write_report
pub use Rattle.write_table.specs.of_write_spelled as of_write_spelled
pub use Rattle.write_table.specs as of_write_table
pub use Rattle.write_back.specs.of_write_uuid as of_write_uuid
