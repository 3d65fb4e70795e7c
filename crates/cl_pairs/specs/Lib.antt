pub mod Pairs
pub mod Streams
pub mod Laws
