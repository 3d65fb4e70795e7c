pub mod Causes
pub mod Held
pub mod Short
pub mod Laws
