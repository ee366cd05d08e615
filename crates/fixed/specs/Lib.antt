pub mod Fields
pub use Rattle.digits.specs as of_digits
pub use Rattle.digits.specs.of_utf8 as of_utf8
