pub mod Naming
pub mod Moments
pub use Rattle.write_tags.proofs.of_list_values as of_list_values
