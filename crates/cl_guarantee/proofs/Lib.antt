pub mod Runs
pub mod Members
pub mod EveryRun
