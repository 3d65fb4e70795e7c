pub mod Front
pub mod FrontCore
pub mod Laws
pub mod Machine
pub mod Recorder
pub mod Session
pub mod Sessions
pub mod Turns
