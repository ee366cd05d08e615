pub use Rattle.build_draft.specs as of_build_draft
