pub use Rattle.round_rooms.specs.of_read_element as of_read_element
pub use Rattle.round_rooms.specs.of_read_machine as of_read_machine
pub use Rattle.round_case.specs.of_round_elements as of_round_elements
pub use Rattle.round_rooms.specs as of_round_rooms
