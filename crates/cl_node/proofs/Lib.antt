pub mod Admitting
pub mod Roles
pub mod Sends
pub mod Slots
