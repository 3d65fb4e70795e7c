pub mod Sends
pub mod Controls
pub mod ReplicaSends
pub mod Places
pub mod Reordering
