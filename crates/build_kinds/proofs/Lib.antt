pub use Rattle.build_draft.proofs as of_build_draft
