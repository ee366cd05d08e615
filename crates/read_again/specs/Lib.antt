pub mod Told
pub mod inside
pub use Rattle.read_machine.specs as of_read_machine
pub use Rattle.read_machine.specs.of_read_path as of_read_path
pub use Rattle.read_machine.specs.of_table_events as of_table_events
