pub mod WorkedListing
mod Examples
mod Holding
mod Codes
mod View
mod Said
mod Steps
mod Elements
mod Acts
mod Plans
mod Trees
mod AcceptedRun
mod Rules
mod Walks
mod CaseNodes
mod OwnCases
mod AcceptedTable
pub mod Once
mod OneCall
pub mod Demand3
pub mod OnValues
pub use Rattle.read_report.proofs.of_area as of_area
pub use Rattle.read_report.proofs.of_names as of_names
pub use Rattle.read_report.proofs.of_read_element as of_read_element
pub use Rattle.read_report.proofs.of_read_machine as of_read_machine
pub use Rattle.read_report.proofs as of_read_report
pub use Rattle.read_report.proofs.of_schema as of_schema
pub use Rattle.read_report.proofs.of_timestamp as of_timestamp
pub use Rattle.list_text.proofs.of_tree_report as of_tree_report
pub use Rattle.read_report.proofs.of_utf8 as of_utf8
