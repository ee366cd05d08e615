pub mod OwnTable
pub mod Areas
pub use Rattle.round_report.proofs as of_round_report
pub use Rattle.round_report.proofs.of_round_rooms as of_round_rooms
pub use Rattle.write_resolved.proofs as of_write_resolved
