pub mod RoleLaws
pub mod Examples
