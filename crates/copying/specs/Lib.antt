pub use Rattle.area.specs as of_area
pub use Rattle.area.specs.of_refusal as of_refusal
