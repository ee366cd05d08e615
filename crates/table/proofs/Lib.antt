pub mod Words
pub mod Scanning
pub mod ValidTables
pub mod Walking
pub mod Resolving
pub mod Examples
pub use Rattle.table_parts.proofs.of_area as of_area
