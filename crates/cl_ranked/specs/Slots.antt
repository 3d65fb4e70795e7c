-- What contracts see of a ranked store: its slots.
use Rattle.std.specs.Prelude.{ℕ, suc, List, [], ◌∷◌, Option, Some, None, slice_index_or}
use Rattle.std.specs.Borrow.{Bor}
use Rattle.std.specs.Option.{option_map}

module _ {T : Type 0} where
  -- what is in the slot of an index: its item, or nothing
  abbrev pub slot_at : List (Option T) → ℕ → Option T
  slot_at slots index = slice_index_or slots index None

  -- the items that are there, each with its index, where the first slot has this one
  unfoldable pub kept_from : ℕ → List (Option T) → List (ℕ × T)
  kept_from first [] = []
  kept_from first (None ∷ slots) = kept_from (suc first) slots
  kept_from first (Some item ∷ slots) = (first, item) ∷ kept_from (suc first) slots

  -- the items that are there, each with its index
  abbrev pub kept : List (Option T) → List (ℕ × T)
  kept slots = kept_from 0 slots

  -- an index and an item that were found, apart from where the item lies
  abbrev pub found : Option (ℕ × Bor T) → Option (ℕ × T)
  found result = option_map (λ pair. (pair.0, pair.1.now)) result
