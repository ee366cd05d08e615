pub mod Holding
pub mod Loop
