mod StoredKeys
mod Narrow
mod Hinting
mod Indexing
pub use Rattle.read_places.proofs.of_area as of_area
pub use Rattle.read_each.proofs as of_read_each
pub use Rattle.read_places.proofs.of_read_element as of_read_element
pub use Rattle.read_each.proofs.of_read_free as of_read_free
pub use Rattle.read_places.proofs as of_read_places
pub use Rattle.read_each.proofs.of_read_plain as of_read_plain
pub use Rattle.read_places.proofs.of_reference as of_reference
pub use Rattle.read_places.proofs.of_tree_put as of_tree_put
pub use Rattle.read_places.proofs.of_tree_report as of_tree_report
