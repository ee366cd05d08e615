pub mod Calming
