pub mod Laid
pub mod inside
pub use Rattle.write_spelled.specs.of_area as of_area
pub use Rattle.write_spelled.specs.of_table as of_table
pub use Rattle.write_spelled.specs as of_write_spelled
