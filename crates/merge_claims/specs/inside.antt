pub mod Pairs
pub mod Alike
pub mod Stands
pub mod Fair
