pub mod Writing
pub mod Listings
pub use Rattle.public_claims.proofs as of_public_claims
pub use Rattle.reader.proofs.of_read_element as of_read_element
pub use Rattle.reader.proofs.of_read_machine as of_read_machine
pub use Rattle.reader.proofs.of_read_path as of_read_path
