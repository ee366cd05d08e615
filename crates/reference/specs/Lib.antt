pub mod Reference
pub use Rattle.digits.specs as of_digits
pub use Rattle.names.specs as of_names
