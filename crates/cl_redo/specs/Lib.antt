pub mod Condition
pub mod Laws
pub mod Redo
pub mod Write
