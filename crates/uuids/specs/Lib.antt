pub mod Uuid
pub use Rattle.names.specs.of_area as of_area
pub use Rattle.names.specs as of_names
pub use Rattle.names.specs.of_refusal as of_refusal
pub use Rattle.fixed.specs.of_utf8 as of_utf8
