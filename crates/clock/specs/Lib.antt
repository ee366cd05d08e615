pub mod Clock
pub mod inside
pub use Rattle.fixed.specs as of_fixed
