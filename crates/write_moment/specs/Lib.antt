pub mod Written
pub use Rattle.timestamp.specs.of_calendar as of_calendar
pub use Rattle.timestamp.specs.of_fixed as of_fixed
pub use Rattle.timestamp.specs.of_fraction as of_fraction
pub use Rattle.timestamp.specs as of_timestamp
