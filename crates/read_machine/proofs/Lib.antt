pub mod Rooms
pub mod RoomsNumbers
pub mod RoomsReading
pub mod TreeOrder
pub mod TreeLevels
pub mod TreeKept
pub mod TreePlans
pub mod TreeContent
pub mod TreeInvariant
pub mod TreeReport
pub mod TreeReading
pub mod Skipping
pub use Rattle.read_path.proofs.of_integer as of_integer
pub use Rattle.table_events.proofs.of_names as of_names
pub use Rattle.read_path.proofs.of_read_element as of_read_element
pub use Rattle.read_path.proofs.of_read_keys as of_read_keys
pub use Rattle.read_path.proofs as of_read_path
pub use Rattle.text_pieces.proofs.of_reference as of_reference
pub use Rattle.table_events.proofs as of_table_events
pub use Rattle.text_pieces.proofs.of_text as of_text
pub use Rattle.text_pieces.proofs.of_text_filter as of_text_filter
pub use Rattle.read_path.proofs.of_tree_put as of_tree_put
pub use Rattle.read_path.proofs.of_tree_record as of_tree_record
pub use Rattle.read_content.proofs.of_trim as of_trim
pub use Rattle.text_pieces.proofs.of_utf8 as of_utf8
