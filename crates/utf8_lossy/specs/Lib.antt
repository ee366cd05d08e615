pub mod Lossy
pub use Rattle.utf8.specs.of_area as of_area
pub use Rattle.utf8.specs.of_refusal as of_refusal
pub use Rattle.utf8.specs as of_utf8
