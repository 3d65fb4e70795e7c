pub mod Shown
pub mod Turning
pub mod Fronts
pub mod Feeding
pub mod Controllers
pub mod Delivered
pub mod Events
pub mod Runs
