pub mod Written
pub mod Distance
pub use Rattle.time.specs.of_area as of_area
pub use Rattle.time.specs.of_digits as of_digits
pub use Rattle.time.specs.of_refusal as of_refusal
pub use Rattle.time.specs as of_time
