-- The lists of one side, each named by its number, which is its position among them.
use Rattle.std.specs.Prelude.{ℕ, List, [], ◌∷◌, ◌++◌, map, slice_index_or, slice_set}
use Rattle.cl_lists.specs.SlotList.{without}

-- the list of a number, which is empty where there is no such list
abbrev pub list_at : List (List ℕ) → ℕ → List ℕ
list_at lists number = slice_index_or lists number []

-- the lists after a slot came last on one of them
unfoldable pub appended : List (List ℕ) → ℕ → ℕ → List (List ℕ)
appended lists number slot = slice_set lists number (list_at lists number ++ slot ∷ [])

-- the lists after a slot was taken off
unfoldable pub removed : List (List ℕ) → ℕ → List (List ℕ)
removed lists slot = map (without slot) lists
