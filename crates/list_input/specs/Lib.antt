pub mod Input
pub use Rattle.area.specs as of_area
