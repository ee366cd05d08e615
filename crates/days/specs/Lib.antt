pub mod Days
pub mod Dates
pub mod inside
pub use Rattle.calendar.specs as of_calendar
