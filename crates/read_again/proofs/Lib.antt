pub mod Telling
pub mod Leading
pub mod Putting
pub mod Turning
pub mod Looping
pub mod Restoring
pub mod Since
pub use Rattle.read_machine.proofs as of_read_machine
pub use Rattle.read_machine.proofs.of_read_path as of_read_path
pub use Rattle.read_machine.proofs.of_table_events as of_table_events
