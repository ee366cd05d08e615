pub mod Gather
pub use Rattle.text.specs.of_area as of_area
pub use Rattle.text.specs.of_digits as of_digits
pub use Rattle.text.specs.of_names as of_names
pub use Rattle.text.specs.of_reference as of_reference
pub use Rattle.text.specs.of_refusal as of_refusal
pub use Rattle.text.specs as of_text
pub use Rattle.text.specs.of_text_filter as of_text_filter
pub use Rattle.text.specs.of_utf8 as of_utf8
