pub mod Calls
pub mod Laws
pub mod Sound
pub mod State
pub mod Table
