pub mod Follows
pub mod Guards
pub mod InTurn
pub mod Meets
pub mod NoConflict
pub mod Skips
