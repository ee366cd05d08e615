pub mod Cutting
pub mod Joining
pub use Rattle.list_text.proofs as of_list_text
