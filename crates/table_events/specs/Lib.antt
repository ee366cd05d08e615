pub mod Skip
pub mod inside
pub use Rattle.names.specs.of_area as of_area
pub use Rattle.names.specs as of_names
pub use Rattle.names.specs.of_refusal as of_refusal
pub use Rattle.table.specs as of_table
