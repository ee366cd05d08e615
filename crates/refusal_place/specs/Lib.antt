pub mod Place
pub use Rattle.table.specs as of_table
