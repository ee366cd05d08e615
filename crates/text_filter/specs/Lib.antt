pub mod Filter
pub use Rattle.utf8.specs as of_utf8
