pub mod Logs
pub mod Shipping
pub mod Mail
pub mod Keeping
pub mod Hearing
pub mod Streams
