pub use Rattle.tree_put.specs.of_area as of_area
pub use Rattle.tree_put.specs.of_refusal as of_refusal
pub use Rattle.tree_put.specs.of_timestamp as of_timestamp
pub use Rattle.tree_put.specs as of_tree_put
pub use Rattle.tree_put.specs.of_tree_record as of_tree_record
pub use Rattle.tree_put.specs.of_utf8 as of_utf8
pub use Rattle.tree_put.specs.of_uuids as of_uuids
