pub mod Spots
pub use Rattle.area.specs as of_area
