pub mod Parts
pub mod PlainParts
pub mod Leading
pub mod Acting
pub mod Suites
pub mod Gathered
pub mod Reading
pub mod Shown
pub mod Decoding
pub mod Properties
pub mod Cases
pub mod SuiteOutputs
pub mod Childless
pub mod SuiteInside
pub mod SuiteBack
pub mod ReportTags
pub mod Fair
pub mod Order
pub mod Walked
pub mod Counting
pub mod Reports
pub use Rattle.round_rooms.proofs.of_read_machine as of_read_machine
pub use Rattle.round_rooms.proofs as of_round_rooms
