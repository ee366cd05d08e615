pub use Rattle.text.specs.of_area as of_area
pub use Rattle.text.specs.of_names as of_names
pub use Rattle.text.specs.of_refusal as of_refusal
pub use Rattle.text.specs as of_text
pub use Rattle.text.specs.of_utf8 as of_utf8
