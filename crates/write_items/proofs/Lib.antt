pub mod Lists
pub mod Walks
pub mod Dead
pub mod Attributes
pub mod Tags
pub mod Rows
pub mod Statuses
pub mod Cases
pub mod Suites
pub mod Documents
pub use Rattle.write_report.proofs.of_area as of_area
