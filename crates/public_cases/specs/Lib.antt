pub mod Document
pub mod Reports
pub mod Cases
pub mod OneCall
pub mod ShortAreas
pub use Rattle.public_claims.specs.of_area as of_area
pub use Rattle.public_claims.specs.of_calendar as of_calendar
pub use Rattle.public_claims.specs.of_digits as of_digits
pub use Rattle.public_claims.specs.of_escape as of_escape
pub use Rattle.public_claims.specs.of_integer as of_integer
pub use Rattle.public_claims.specs.of_list_text as of_list_text
pub use Rattle.public_claims.specs.of_names as of_names
pub use Rattle.public_claims.specs as of_public_claims
pub use Rattle.public_claims.specs.of_read_content as of_read_content
pub use Rattle.public_claims.specs.of_read_element as of_read_element
pub use Rattle.public_claims.specs.of_read_keys as of_read_keys
pub use Rattle.public_claims.specs.of_read_place as of_read_place
pub use Rattle.public_claims.specs.of_read_rules as of_read_rules
pub use Rattle.public_claims.specs.of_read_state as of_read_state
pub use Rattle.public_claims.specs.of_reference as of_reference
pub use Rattle.public_claims.specs.of_refusal as of_refusal
pub use Rattle.public_claims.specs.of_schema as of_schema
pub use Rattle.public_claims.specs.of_table as of_table
pub use Rattle.public_claims.specs.of_time as of_time
pub use Rattle.public_claims.specs.of_time_text as of_time_text
pub use Rattle.public_claims.specs.of_timestamp as of_timestamp
pub use Rattle.public_claims.specs.of_tree_record as of_tree_record
pub use Rattle.public_claims.specs.of_tree_report as of_tree_report
pub use Rattle.public_claims.specs.of_tree_status as of_tree_status
pub use Rattle.public_claims.specs.of_utf8 as of_utf8
pub use Rattle.public_claims.specs.of_uuids as of_uuids
pub use Rattle.write_answer.specs as of_write_answer
pub use Rattle.write_answer.specs.of_write_escape as of_write_escape
pub use Rattle.write_answer.specs.of_write_moment as of_write_moment
pub use Rattle.write_answer.specs.of_write_report as of_write_report
pub use Rattle.write_answer.specs.of_write_uuid as of_write_uuid
