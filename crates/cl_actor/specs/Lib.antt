pub mod Acting
pub mod Core
pub mod Laws
