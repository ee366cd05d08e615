pub use Rattle.round_report.specs.of_round_rooms as of_round_rooms
pub use Rattle.write_answer.specs as of_write_answer
