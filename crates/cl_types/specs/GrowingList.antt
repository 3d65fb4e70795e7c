-- What contracts see of a growing list.
use Rattle.std.specs.Prelude.{ℕ, ◌-◌, List, vec_len, vec_capacity}
use Rattle.cl_types.specs.declared.growing_list.GrowingList.{GrowingList}

-- the items, first to last
abbrev pub items : {T : Type 0} → GrowingList T → List T
items list = list.items.items

-- for how many more items there is room
abbrev pub room : {T : Type 0} → GrowingList T → ℕ
room list = vec_capacity list.items - vec_len list.items
