pub use Rattle.write_marks.specs.of_names as of_names
pub use Rattle.write_marks.specs.of_write_items as of_write_items
pub use Rattle.write_marks.specs as of_write_marks
pub use Rattle.write_marks.specs.of_write_table as of_write_table
