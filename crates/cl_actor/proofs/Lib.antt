pub mod Handling
pub mod Receivers
pub mod Primaries
