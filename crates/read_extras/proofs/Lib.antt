pub mod Placing
pub mod Choosing
pub use Rattle.read_extra_record.proofs as of_read_extra_record
