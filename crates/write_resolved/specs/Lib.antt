pub use Rattle.write_report.specs as of_write_report
pub use Rattle.write_table.specs as of_write_table
