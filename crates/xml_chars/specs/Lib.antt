pub mod Chars
pub mod Bytes
pub use Rattle.utf8.specs as of_utf8
