mod Comparing
mod Searching
pub mod NameLaws
pub mod Examples
pub use Rattle.area.proofs as of_area
