pub use Rattle.build_draft.specs.of_area as of_area
pub use Rattle.build_draft.specs as of_build_draft
pub use Rattle.build_draft.specs.of_refusal as of_refusal
pub use Rattle.build_draft.specs.of_tree_counts as of_tree_counts
pub use Rattle.build_draft.specs.of_tree_put as of_tree_put
pub use Rattle.build_draft.specs.of_tree_record as of_tree_record
