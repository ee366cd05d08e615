pub mod Respelt
