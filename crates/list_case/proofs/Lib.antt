pub mod Going
pub mod Unrolling
pub mod Lines
pub use Rattle.list_status.proofs.of_list_sums as of_list_sums
pub use Rattle.list_status.proofs.of_list_text as of_list_text
pub use Rattle.list_status.proofs.of_list_values as of_list_values
