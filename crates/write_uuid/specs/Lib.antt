pub mod Written
pub use Rattle.uuids.specs as of_uuids
