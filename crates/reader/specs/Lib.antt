pub mod Answer
pub mod inside
pub use Rattle.clearing.specs.of_area as of_area
pub use Rattle.read_step.specs.of_digits as of_digits
pub use Rattle.read_step.specs.of_integer as of_integer
pub use Rattle.read_step.specs.of_read_content as of_read_content
pub use Rattle.read_step.specs.of_read_element as of_read_element
pub use Rattle.read_step.specs.of_read_keys as of_read_keys
pub use Rattle.read_step.specs.of_read_machine as of_read_machine
pub use Rattle.read_step.specs.of_read_path as of_read_path
pub use Rattle.read_step.specs.of_read_place as of_read_place
pub use Rattle.read_step.specs.of_read_rules as of_read_rules
pub use Rattle.read_step.specs.of_read_state as of_read_state
pub use Rattle.clearing.specs.of_refusal as of_refusal
pub use Rattle.read_step.specs.of_tree_report as of_tree_report
pub use Rattle.read_step.specs.of_tree_status as of_tree_status
pub use Rattle.read_step.specs.of_trim as of_trim
