pub mod Admitting
pub mod Busy
pub mod Numbers
pub mod Sends
pub mod Turns
