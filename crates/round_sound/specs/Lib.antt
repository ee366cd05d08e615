pub mod Words
pub use Rattle.round_elements.specs as of_round_elements
pub use Rattle.round_elements.specs.of_write_report as of_write_report
pub use Rattle.round_elements.specs.of_write_table as of_write_table
