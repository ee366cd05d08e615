pub mod XmlBack
