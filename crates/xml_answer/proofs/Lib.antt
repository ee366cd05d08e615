pub mod Cases
mod Examples
pub use Rattle.list_text.proofs.of_area as of_area
