pub mod Done
pub mod Sessions
pub mod Shown
pub mod Laws
