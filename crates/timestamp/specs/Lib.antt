pub mod Timestamp
pub mod inside
pub use Rattle.names.specs.of_area as of_area
pub use Rattle.calendar.specs as of_calendar
pub use Rattle.fraction.specs.of_digits as of_digits
pub use Rattle.clock.specs.of_fixed as of_fixed
pub use Rattle.fraction.specs as of_fraction
pub use Rattle.names.specs as of_names
pub use Rattle.names.specs.of_refusal as of_refusal
pub use Rattle.fraction.specs.of_utf8 as of_utf8
