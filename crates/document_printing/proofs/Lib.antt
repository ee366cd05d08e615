pub mod Trees
pub mod Reports
pub mod Documents
