pub use Rattle.list_text.specs.of_area as of_area
pub use Rattle.list_text.specs as of_list_text
pub use Rattle.list_text.specs.of_schema as of_schema
pub use Rattle.list_text.specs.of_tree_record as of_tree_record
pub use Rattle.list_text.specs.of_tree_report as of_tree_report
pub use Rattle.write_escape.specs.of_utf8 as of_utf8
pub use Rattle.write_escape.specs as of_write_escape
pub use Rattle.write_moment.specs as of_write_moment
