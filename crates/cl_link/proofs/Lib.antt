mod Examples
pub mod DueMessages
pub mod KeptLemmas
pub mod LinkLemmas
pub mod LinkStates
pub mod Indices
pub mod LinkOrders
pub mod LinkPairs
pub mod Networks
