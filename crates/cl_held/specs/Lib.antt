pub mod Work
pub mod Held
pub mod Laws
