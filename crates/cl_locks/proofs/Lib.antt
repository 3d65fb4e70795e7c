mod Asking
pub mod Compatible
mod Examples
pub mod GrantLists
pub mod Granting
mod Listed
pub mod Monotone
mod OneList
pub mod TableLaws
mod TableFacts
mod Walks
