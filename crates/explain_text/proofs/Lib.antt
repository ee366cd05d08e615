pub mod Paths
pub mod OneLine
mod Examples
pub use Rattle.list_text.proofs.of_escape as of_escape
pub use Rattle.list_text.proofs as of_list_text
pub use Rattle.text.proofs as of_text
pub use Rattle.list_text.proofs.of_time_text as of_time_text
