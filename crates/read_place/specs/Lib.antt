pub mod Marks
pub mod inside
pub use Rattle.read_state.specs as of_read_state
