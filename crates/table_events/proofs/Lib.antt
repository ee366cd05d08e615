pub mod Numbered
pub mod Turns
pub mod Attributing
pub mod Examples
pub use Rattle.names.proofs as of_names
pub use Rattle.table.proofs as of_table
