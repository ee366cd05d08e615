pub mod Others
pub mod Running
pub mod Acting
pub mod ByKind
pub mod Tables
pub mod Stepping
pub mod Eventful
pub mod Passing
pub mod Beginning
pub mod Properties
pub mod Settling
pub use Rattle.read_actions.proofs.of_read_element as of_read_element
pub use Rattle.read_again.proofs.of_read_machine as of_read_machine
pub use Rattle.read_again.proofs.of_read_path as of_read_path
