pub mod Machine
pub mod Reading
pub use Rattle.text_pieces.specs.of_area as of_area
pub use Rattle.text_pieces.specs.of_digits as of_digits
pub use Rattle.read_path.specs.of_integer as of_integer
pub use Rattle.table_events.specs.of_names as of_names
pub use Rattle.read_content.specs as of_read_content
pub use Rattle.read_path.specs.of_read_element as of_read_element
pub use Rattle.read_path.specs.of_read_keys as of_read_keys
pub use Rattle.read_path.specs as of_read_path
pub use Rattle.read_path.specs.of_read_place as of_read_place
pub use Rattle.read_path.specs.of_read_rules as of_read_rules
pub use Rattle.read_path.specs.of_read_state as of_read_state
pub use Rattle.text_pieces.specs.of_reference as of_reference
pub use Rattle.text_pieces.specs.of_refusal as of_refusal
pub use Rattle.read_path.specs.of_schema as of_schema
pub use Rattle.table_events.specs.of_table as of_table
pub use Rattle.table_events.specs as of_table_events
pub use Rattle.text_pieces.specs.of_text as of_text
pub use Rattle.text_pieces.specs.of_text_filter as of_text_filter
pub use Rattle.read_path.specs.of_time as of_time
pub use Rattle.read_path.specs.of_timestamp as of_timestamp
pub use Rattle.read_path.specs.of_tree_put as of_tree_put
pub use Rattle.read_path.specs.of_tree_record as of_tree_record
pub use Rattle.read_path.specs.of_tree_status as of_tree_status
pub use Rattle.read_content.specs.of_trim as of_trim
pub use Rattle.text_pieces.specs.of_utf8 as of_utf8
pub use Rattle.read_path.specs.of_uuids as of_uuids
