pub mod Escape
pub mod inside
pub use Rattle.escape.specs as of_escape
pub use Rattle.names.specs as of_names
pub use Rattle.utf8.specs as of_utf8
