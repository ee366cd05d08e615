pub mod Kinds
pub mod Table
pub mod Event
pub use Rattle.table_parts.specs.of_area as of_area
pub use Rattle.table_parts.specs.of_refusal as of_refusal
