pub mod Tags
pub use Rattle.list_values.proofs as of_list_values
