pub mod Inputs
pub use Rattle.list_input.proofs as of_list_input
pub use Rattle.public_call.proofs as of_public_call
