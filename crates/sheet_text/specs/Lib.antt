pub mod Printed
pub use Rattle.sheet_sums.specs as of_sheet_sums
pub use Rattle.sheet_sums.specs.of_tree_counts as of_tree_counts
