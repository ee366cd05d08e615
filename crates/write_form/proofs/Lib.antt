pub mod Forms
pub use Rattle.write_table.proofs as of_write_table
