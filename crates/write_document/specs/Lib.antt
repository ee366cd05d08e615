pub use Rattle.list_sums.specs.of_digits as of_digits
pub use Rattle.list_sums.specs as of_list_sums
pub use Rattle.names.specs as of_names
pub use Rattle.table.specs as of_table
pub use Rattle.write_marks.specs.of_write_items as of_write_items
pub use Rattle.write_marks.specs as of_write_marks
pub use Rattle.write_marks.specs.of_write_report as of_write_report
pub use Rattle.write_marks.specs.of_write_table as of_write_table
