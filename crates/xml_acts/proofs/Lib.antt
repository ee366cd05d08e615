pub mod FurtherBytes
pub mod Letters
