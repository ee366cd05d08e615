pub mod Trim
pub use Rattle.utf8_chars.specs.of_area as of_area
pub use Rattle.utf8_chars.specs.of_refusal as of_refusal
pub use Rattle.utf8_chars.specs.of_utf8 as of_utf8
