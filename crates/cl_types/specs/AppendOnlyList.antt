-- What contracts see of an append-only list.
use Rattle.std.specs.Prelude.{ℕ, List}
use Rattle.cl_types.specs.declared.append_only_list.AppendOnlyList.{AppendOnlyList}
use Rattle.cl_types.specs.GrowingList.{items, room as room_of_list}

-- the entries, first to last
abbrev pub entries : {T : Type 0} → AppendOnlyList T → List T
entries list = items list.list

-- for how many more entries there is room
abbrev pub room : {T : Type 0} → AppendOnlyList T → ℕ
room list = room_of_list list.list
