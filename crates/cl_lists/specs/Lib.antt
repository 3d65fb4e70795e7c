pub mod Arena
pub mod Entries
pub mod FreeList
pub mod Links
pub mod Lists
pub mod Sides
pub mod SlotList
