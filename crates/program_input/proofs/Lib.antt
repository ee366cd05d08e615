pub use Rattle.list_input.proofs as of_list_input
