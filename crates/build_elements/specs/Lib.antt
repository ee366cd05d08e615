pub use Rattle.build_kinds.specs.of_build_draft as of_build_draft
pub use Rattle.build_kinds.specs.of_refusal as of_refusal
