pub mod Documents
mod Examples
