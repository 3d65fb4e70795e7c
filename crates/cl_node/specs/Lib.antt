pub mod Addressing
pub mod Laws
pub mod Machine
pub mod Marks
pub mod Members
pub mod Node
pub mod NodeCore
pub mod Slot
