-- What clauses see of the slots of a log. No public clause cites this module.
use Rattle.std.specs.Prelude.{ℕ, ◌+◌, ◌-◌, List, length, vec_len, vec_capacity}
use Rattle.cl_log.specs.declared.slots.SlotList.{SlotList}
use Rattle.cl_log.specs.LogEntry.{LogEntry}
use Rattle.cl_log.specs.Slots.{listed}

-- the records with their numbers
abbrev pub entries_in : SlotList → List LogEntry
entries_in list = listed list.first list.slots.items

-- the number that the next record will have
abbrev pub next_in : SlotList → ℕ
next_in list = list.first + length list.slots.items

-- for how many more records there is room
abbrev pub room_in : SlotList → ℕ
room_in list = vec_capacity list.slots - vec_len list.slots
