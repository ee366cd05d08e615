pub mod Steps
pub mod Opening
pub use Rattle.build_kinds.proofs.of_build_draft as of_build_draft
