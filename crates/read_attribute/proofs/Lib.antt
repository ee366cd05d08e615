pub mod RoleKeys
pub mod Matching
pub use Rattle.read_extras.proofs.of_read_extra_record as of_read_extra_record
pub use Rattle.read_extras.proofs as of_read_extras
