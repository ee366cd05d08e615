pub mod Answer
pub mod inside
pub use Rattle.list_suites.specs.of_escape as of_escape
pub use Rattle.list_suites.specs.of_list_text as of_list_text
pub use Rattle.tree_layout.specs.of_tree_report as of_tree_report
