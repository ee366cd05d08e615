pub mod Behind
mod Examples
pub use Rattle.write_table.proofs as of_write_table
