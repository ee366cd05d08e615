pub mod Used
pub mod Leaving
pub mod Answered
mod Examples
pub use Rattle.area.proofs as of_area
pub use Rattle.write_marks.proofs.of_write_items as of_write_items
pub use Rattle.write_answer.proofs.of_write_table as of_write_table
