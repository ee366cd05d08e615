pub mod Spelled
pub use Rattle.names.specs.of_area as of_area
pub use Rattle.names.specs as of_names
pub use Rattle.table.specs as of_table
