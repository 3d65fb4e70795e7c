pub mod ContentLaws
pub mod FaultLaws
pub mod LongestSpelling
pub mod PacketLaws
pub mod SettlingPackets
pub mod SpellingLengths
