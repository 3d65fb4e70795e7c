-- What contracts see of a log.
use Rattle.std.specs.Prelude.{ℕ, ◌+◌, ◌-◌, min, List, length, map, vec_len, vec_capacity}
use Rattle.std.specs.HashMap.{spare}
use Rattle.cl_log.specs.declared.log.Log.{Log}
use Rattle.cl_log.specs.LogEntry.{LogEntry, numbered}

-- the records that are kept, with their numbers
unfoldable pub entries : Log → List LogEntry
entries log = numbered log.records.first (map (λ slot. slot.content) log.records.slots.items)

-- the number of the first record that is kept, or the next number where none is
unfoldable pub first_kept : Log → ℕ
first_kept log = log.records.first

-- the number that the next record will have
unfoldable pub next_number : Log → ℕ
next_number log = log.records.first + length log.records.slots.items

-- for how many more records there is room
unfoldable pub room : Log → ℕ
room log = min (vec_capacity log.records.slots - vec_len log.records.slots) (spare log.index)
