pub mod Tags
pub use Rattle.table_events.specs.of_area as of_area
pub use Rattle.table_events.specs.of_names as of_names
pub use Rattle.table_events.specs.of_refusal as of_refusal
pub use Rattle.table_events.specs.of_table as of_table
