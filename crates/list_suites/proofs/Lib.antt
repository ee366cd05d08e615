pub mod Lines
pub mod Unrolling
pub use Rattle.list_case.proofs as of_list_case
pub use Rattle.list_case.proofs.of_list_sums as of_list_sums
pub use Rattle.list_case.proofs.of_list_text as of_list_text
pub use Rattle.list_case.proofs.of_list_values as of_list_values
