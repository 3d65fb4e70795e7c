pub mod Message
pub mod Spelling
pub mod Range
pub mod PacketReading
pub mod Laws
