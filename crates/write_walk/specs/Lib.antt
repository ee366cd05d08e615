pub use Rattle.list_sums.specs as of_list_sums
pub use Rattle.write_items.specs as of_write_items
