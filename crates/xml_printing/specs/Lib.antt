pub mod XmlPrinted
