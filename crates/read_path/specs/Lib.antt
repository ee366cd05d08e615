pub mod Paths
pub mod inside
pub use Rattle.read_fault.specs.of_integer as of_integer
pub use Rattle.read_fault.specs.of_read_element as of_read_element
pub use Rattle.read_fault.specs.of_read_keys as of_read_keys
pub use Rattle.read_place.specs as of_read_place
pub use Rattle.read_rules.specs as of_read_rules
pub use Rattle.read_place.specs.of_read_state as of_read_state
pub use Rattle.read_fault.specs.of_schema as of_schema
pub use Rattle.read_fault.specs.of_time as of_time
pub use Rattle.read_fault.specs.of_timestamp as of_timestamp
pub use Rattle.read_fault.specs.of_tree_put as of_tree_put
pub use Rattle.read_rules.specs.of_tree_record as of_tree_record
pub use Rattle.read_fault.specs.of_tree_report as of_tree_report
pub use Rattle.read_rules.specs.of_tree_status as of_tree_status
pub use Rattle.read_fault.specs.of_uuids as of_uuids
