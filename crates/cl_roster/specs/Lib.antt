pub mod Kept
pub mod Laws
pub mod Members
pub mod Roles
pub mod Roster
pub mod Standing
pub mod Verdict
pub mod View
