pub mod Utf8
pub mod Grammar
pub mod Characters
pub mod inside
pub use Rattle.area.specs as of_area
pub use Rattle.area.specs.of_refusal as of_refusal
