pub mod Codes
pub mod Values
pub use Rattle.build_draft.specs as of_build_draft
pub use Rattle.port_refusal.specs as of_port_refusal
