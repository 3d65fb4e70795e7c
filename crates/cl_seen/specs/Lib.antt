pub mod Seen
pub mod Ways
pub mod Laws
