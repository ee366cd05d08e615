pub mod Stamp
pub use Rattle.days.specs as of_days
pub use Rattle.tree_report.specs.of_digits as of_digits
pub use Rattle.tree_report.specs.of_names as of_names
pub use Rattle.tree_report.specs.of_timestamp as of_timestamp
pub use Rattle.tree_report.specs.of_tree_record as of_tree_record
pub use Rattle.tree_report.specs as of_tree_report
