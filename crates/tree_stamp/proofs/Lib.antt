pub mod Layouts
pub use Rattle.days.proofs as of_days
