pub mod Decisions
pub mod Kept
pub mod Laws
