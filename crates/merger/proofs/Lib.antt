pub mod Trees
pub mod Agree
pub mod Steps
pub mod Known
