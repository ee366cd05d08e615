pub mod XmlExplanation
pub mod inside
pub use Rattle.list_text.specs as of_list_text
