pub use Rattle.list_values.specs.of_area as of_area
pub use Rattle.list_values.specs.of_digits as of_digits
pub use Rattle.list_values.specs.of_escape as of_escape
pub use Rattle.list_sums.specs as of_list_sums
pub use Rattle.list_values.specs.of_list_text as of_list_text
pub use Rattle.list_values.specs.of_names as of_names
pub use Rattle.list_values.specs.of_tree_record as of_tree_record
pub use Rattle.list_values.specs.of_tree_report as of_tree_report
