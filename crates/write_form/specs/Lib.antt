pub use Rattle.write_table.specs.of_write_spelled as of_write_spelled
pub use Rattle.write_table.specs as of_write_table
