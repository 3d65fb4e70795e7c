pub mod Keeping
mod Reaching
mod Ending
mod Entries
mod Worlds
pub mod Standings
mod Fronts
pub mod Messages
pub mod Events
pub mod Runs
