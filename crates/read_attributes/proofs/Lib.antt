pub mod Missing
pub mod FreeKeys
pub mod Growing
mod Sparing
pub use Rattle.read_all.proofs.of_read_element as of_read_element
pub use Rattle.read_all.proofs.of_reference as of_reference
pub use Rattle.read_all.proofs.of_tree_put as of_tree_put
pub use Rattle.read_all.proofs.of_tree_report as of_tree_report
