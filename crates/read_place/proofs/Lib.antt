pub mod Lasting
pub mod Examples
pub use Rattle.read_state.proofs as of_read_state
