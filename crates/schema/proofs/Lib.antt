pub mod Tests
pub mod Laws
pub mod TextLaws
pub mod RecordLaws
pub mod StoreLaws
pub mod Examples
pub use Rattle.timestamp.proofs.of_area as of_area
pub use Rattle.text_filter.proofs as of_text_filter
pub use Rattle.timestamp.proofs as of_timestamp
pub use Rattle.text_filter.proofs.of_utf8 as of_utf8
