pub use Rattle.text.specs as of_text
pub use Rattle.write_escape.specs as of_write_escape
pub use Rattle.write_moment.specs as of_write_moment
pub use Rattle.write_uuid.specs as of_write_uuid
