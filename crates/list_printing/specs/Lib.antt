pub mod Printed
pub use Rattle.list_input.specs as of_list_input
pub use Rattle.public_call.specs.of_public_claims as of_public_claims
pub use Rattle.public_call.specs.of_read_machine as of_read_machine
