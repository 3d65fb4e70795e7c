pub mod Aborting
pub mod Ends
pub mod Following
pub mod Operating
pub mod Rollback
pub mod Soundness
pub mod States
pub mod Undoing
