pub mod HeldBounds
pub mod KeysBefore
pub mod Stepping
pub mod Apart
pub mod Kept
pub mod Sourced
pub mod Going
pub use Rattle.read_attribute.proofs.of_read_extras as of_read_extras
pub use Rattle.read_free.proofs as of_read_free
pub use Rattle.read_plain.proofs as of_read_plain
