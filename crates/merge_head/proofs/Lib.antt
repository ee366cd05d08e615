pub mod Finding
pub mod Heading
