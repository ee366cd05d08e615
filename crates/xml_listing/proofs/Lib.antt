pub mod Answers
pub use Rattle.public_call.proofs as of_public_call
pub use Rattle.public_call.proofs.of_public_claims as of_public_claims
pub use Rattle.public_call.proofs.of_read_element as of_read_element
pub use Rattle.public_call.proofs.of_read_machine as of_read_machine
pub use Rattle.public_call.proofs.of_read_path as of_read_path
