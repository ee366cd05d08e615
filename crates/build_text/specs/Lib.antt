pub use Rattle.build_draft.specs as of_build_draft
pub use Rattle.build_draft.specs.of_refusal as of_refusal
