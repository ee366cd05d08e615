pub mod Table
pub mod Cycle
pub mod Dates
pub mod Lengths
pub use Rattle.calendar.proofs as of_calendar
