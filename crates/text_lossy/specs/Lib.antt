pub mod LossyText
pub use Rattle.utf8_lossy.specs.of_area as of_area
pub use Rattle.text_filter.specs as of_text_filter
pub use Rattle.utf8_lossy.specs.of_utf8 as of_utf8
