pub mod ByTable
pub mod ByOther
pub mod ByKind
pub mod EncodeLists
pub mod EncodeText
pub mod EncodeAreas
pub mod EncodeCells
pub mod EncodeKinds
pub mod EncodeShown
pub mod EncodeGood
pub mod EncodeReading
pub mod EncodeOrder
pub mod Encode
pub mod CellFits
pub mod EncodeExamples
pub mod LayoutExamples
pub use Rattle.schema.proofs.of_area as of_area
pub use Rattle.schema.proofs as of_schema
pub use Rattle.schema.proofs.of_text_filter as of_text_filter
pub use Rattle.schema.proofs.of_timestamp as of_timestamp
pub use Rattle.tree_status.proofs.of_tree_record as of_tree_record
pub use Rattle.tree_status.proofs as of_tree_status
pub use Rattle.schema.proofs.of_utf8 as of_utf8
