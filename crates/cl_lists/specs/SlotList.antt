-- A list of slots, first to last. Slots are numbers.
use Rattle.std.specs.Prelude.{ℕ, Bool, true, not, ◌&&◌, ◌==◌, if◌then◌else◌, List, [], ◌∷◌, Option, Some, None, IsTrue, filter}
use Rattle.std.specs.List.{list_any}

-- whether the slot is on the list
abbrev pub has : List ℕ → ℕ → Bool
has list slot = list_any (λ other. other == slot) list

-- the slot is on the list
abbrev pub IsOn : List ℕ → ℕ → Type 0
IsOn list slot = IsTrue (has list slot)

-- whether no slot is on the list twice
unfoldable pub is_distinct : List ℕ → Bool
is_distinct [] = true
is_distinct (slot ∷ list) = not (has list slot) && is_distinct list

-- the first slot of the list
abbrev pub first_of : List ℕ → Option ℕ
first_of [] = None
first_of (slot ∷ list) = Some slot

-- the last slot of the list, or what is given of an empty one
abbrev pub last_or : Option ℕ → List ℕ → Option ℕ
last_or given [] = given
last_or given (slot ∷ list) = last_or (Some slot) list

-- the last slot of the list
abbrev pub last_of : List ℕ → Option ℕ
last_of list = last_or None list

-- the slot that follows this one on the list, or none after the last and where this one is not on the list
unfoldable pub after_in : List ℕ → ℕ → Option ℕ
after_in [] slot = None
after_in (other ∷ list) slot = if other == slot then first_of list else after_in list slot

-- the slot that this one follows on the list, or what is given before the first, or none where this one is not on
-- the list
unfoldable pub before_or : Option ℕ → List ℕ → ℕ → Option ℕ
before_or given [] slot = None
before_or given (other ∷ list) slot = if other == slot then given else before_or (Some other) list slot

-- the slot that this one follows on the list, or none before the first and where this one is not on the list
abbrev pub before_in : List ℕ → ℕ → Option ℕ
before_in list slot = before_or None list slot

-- the list without the slot, in the same order
abbrev pub without : ℕ → List ℕ → List ℕ
without slot list = filter (λ other. not (other == slot)) list
