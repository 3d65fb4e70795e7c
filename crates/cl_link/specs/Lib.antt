pub mod Kept
pub mod LinkPair
pub mod LinkState
pub mod Network
