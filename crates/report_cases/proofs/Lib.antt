pub mod Public
mod Examples
mod ShortAreas
