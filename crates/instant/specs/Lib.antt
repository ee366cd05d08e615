pub mod Instant
pub mod inside
pub use Rattle.timestamp.specs as of_timestamp
