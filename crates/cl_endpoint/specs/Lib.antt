pub mod Endpoint
pub mod Emission
pub mod Laws
