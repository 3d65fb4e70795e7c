-- The lists of a side after a slot came last on one of them, or left.
use Rattle.std.proofs.Common.{◌≡◌, ◌≢◌, ℕ, ◌<◌, List, [], ◌∷◌, ◌++◌, replicate, map, length, sym, ap, ◌∙◌, inl, inr, length-set, get_or-set_same, get_or-set_other}
use Rattle.std.proofs.lemmas.List.{get_or-map, get_or_past, length-map}
use Rattle.std.proofs.lemmas.Bool.{cases_lt}
use Rattle.cl_lists.specs.SlotList.{without}
use Rattle.cl_lists.specs.Lists.{list_at, appended, removed}
use Rattle.cl_lists.proofs.LinkGrow.{get_or-append_default}

-- the lists after a slot comes last on one of them
pub list_at-appended_same : (lists : List (List ℕ)) (number slot : ℕ) → number < length lists → list_at (appended lists number slot) number ≡ list_at lists number ++ slot ∷ []
unfolding appended
list_at-appended_same lists number slot exists = get_or-set_same lists number _ _ exists

pub list_at-appended_other : (lists : List (List ℕ)) (number slot other : ℕ) → other ≢ number → list_at (appended lists number slot) other ≡ list_at lists other
unfolding appended
list_at-appended_other lists number slot other differ = get_or-set_other lists number other _ _ differ

pub length-appended : (lists : List (List ℕ)) (number slot : ℕ) → length (appended lists number slot) ≡ length lists
unfolding appended
length-appended lists number slot = length-set _ _ _

-- the lists after a slot leaves those that it is on
pub list_at-removed : (lists : List (List ℕ)) (slot number : ℕ) → list_at (removed lists slot) number ≡ without slot (list_at lists number)
unfolding removed
list_at-removed lists slot number = elim (cases_lt number (length lists)) [
  | inl below ↦ get_or-map (without slot) lists number [] [] below
  | inr past ↦ get_or_past (map (without slot) lists) number [] (rw length-map past) ∙ ap (without slot) (sym (get_or_past lists number [] past))
]

pub length-removed : (lists : List (List ℕ)) (slot : ℕ) → length (removed lists slot) ≡ length lists
unfolding removed
length-removed lists slot = length-map _ _

-- empty lists that come at the end change no list
pub list_at-more : (lists : List (List ℕ)) (count number : ℕ) → list_at (lists ++ replicate count []) number ≡ list_at lists number
list_at-more lists count number = get_or-append_default lists count number []
