pub mod ElementKinds
pub mod Adding
pub mod Opening
