pub mod RecordLaws
pub mod Bits
pub mod Marks
pub mod Examples
