pub mod Longer
pub mod Cores
pub mod Feeds
pub mod Runs
pub mod Marks
pub mod Quiet
