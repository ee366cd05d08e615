pub mod Words
pub mod Bits
pub mod Kinds
pub mod Record
