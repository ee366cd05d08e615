pub mod Demand2
pub use Rattle.public_claims.specs.of_list_text as of_list_text
pub use Rattle.public_claims.specs as of_public_claims
pub use Rattle.public_claims.specs.of_read_element as of_read_element
pub use Rattle.public_claims.specs.of_read_report as of_read_report
pub use Rattle.round_sound.specs.of_round_elements as of_round_elements
pub use Rattle.round_sound.specs as of_round_sound
pub use Rattle.scratch_claims.specs as of_scratch_claims
