pub mod Arranged
pub mod Merged
pub mod Numbers
