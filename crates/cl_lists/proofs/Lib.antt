mod ArenaChanges
mod ArenaFacts
pub mod ArenaLaws
mod ContentFacts
mod EntryWrites
mod FreeListLemmas
mod IsLinkedProp
mod LinkAppend
mod LinkGrow
mod LinkRemove
mod LinkWrites
mod Linked
pub mod ListsLaws
mod Positions
mod SideFacts
pub mod SlotListLemmas
mod Walk
