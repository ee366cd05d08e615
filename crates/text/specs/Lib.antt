pub mod Kept
pub mod Decode
pub mod Value
pub mod inside
pub use Rattle.utf8_chars.specs.of_area as of_area
pub use Rattle.reference.specs.of_digits as of_digits
pub use Rattle.reference.specs.of_names as of_names
pub use Rattle.reference.specs as of_reference
pub use Rattle.utf8_chars.specs.of_refusal as of_refusal
pub use Rattle.text_filter.specs as of_text_filter
pub use Rattle.utf8_chars.specs.of_utf8 as of_utf8
