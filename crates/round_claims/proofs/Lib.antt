pub mod Layouts
pub mod Demand2
pub mod Examples
pub use Rattle.public_claims.proofs as of_public_claims
pub use Rattle.round_trip.proofs.of_round_report as of_round_report
pub use Rattle.round_trip.proofs as of_round_trip
