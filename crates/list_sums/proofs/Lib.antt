pub mod Records
pub mod Sums
pub mod Used
pub use Rattle.list_text.proofs.of_area as of_area
pub use Rattle.list_text.proofs as of_list_text
