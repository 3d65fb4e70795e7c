pub mod Members
pub mod Nodes
pub mod Alike
pub mod Inputs
pub mod Runs
pub mod EveryRun
