pub mod Ranges
pub mod Spent
pub mod Laws
