pub mod Suites
pub use Rattle.write_rows.proofs as of_write_rows
