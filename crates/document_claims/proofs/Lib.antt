mod InUse
mod Tokenized
pub mod XmlBack
