pub mod Values
pub mod Ascii
pub mod Texts
pub mod Numbers
pub mod Printing
pub mod Examples
pub use Rattle.utf8.proofs.of_area as of_area
pub use Rattle.utf8.proofs as of_utf8
