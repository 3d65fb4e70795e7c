pub mod World
pub mod Queues
pub mod Laws
