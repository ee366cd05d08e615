pub mod Port
pub mod Back
pub use Rattle.refusal.specs as of_refusal
