pub mod Runs
mod Ascii
pub mod Scalars
pub mod Forms
pub mod Rules
pub mod Encoding
pub mod Splitting
pub mod Boundaries
pub mod Examples
pub use Rattle.area.proofs as of_area
