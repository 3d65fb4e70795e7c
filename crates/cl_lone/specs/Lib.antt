pub mod Calm
pub mod Lone
pub mod Laws
