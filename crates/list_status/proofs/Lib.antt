pub use Rattle.list_sums.proofs as of_list_sums
pub use Rattle.list_values.proofs.of_list_text as of_list_text
pub use Rattle.list_values.proofs as of_list_values
