pub mod Calls
pub mod Laws
pub mod Recorded
pub mod Sound
pub mod State
