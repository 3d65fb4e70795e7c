pub mod Operations
pub mod Ledger
pub mod Steps
pub mod Laws
