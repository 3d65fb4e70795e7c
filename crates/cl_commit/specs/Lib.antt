pub mod Standing
pub mod Life
pub mod Laws
