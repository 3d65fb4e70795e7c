pub mod System
pub mod Firm
pub mod Replicas
pub mod Roles
pub mod Laws
