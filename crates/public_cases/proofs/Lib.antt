pub mod Cases
pub mod OneCall
pub mod ShortAreas
pub use Rattle.public_claims.proofs.of_names as of_names
pub use Rattle.public_claims.proofs.of_tree_report as of_tree_report
