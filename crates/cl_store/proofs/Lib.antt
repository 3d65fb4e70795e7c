pub mod Counted
pub mod Determined
pub mod Found
pub mod InOrder
mod Indexed
mod Live
mod Parts
pub mod Places
mod Searches
mod Sorted
pub mod Splits
mod Writes
