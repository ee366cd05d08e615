pub mod Valuing
pub mod ValueRoles
