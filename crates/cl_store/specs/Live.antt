-- How many places have a value.
use Rattle.std.specs.Prelude.{◌≡◌, ℕ, Bool, false, List, [], ◌∷◌, length, is_some}
use Rattle.std.specs.List.{list_any}
use Rattle.cl_types.specs.Places.{Place, Stored, same_place}

-- the place is one of these
abbrev pub is_one_of : List Place → Place → Bool
is_one_of places place = list_any (same_place place) places

-- no place stands among these twice
abbrev pub AreDistinct : List Place → Type 0
AreDistinct [] = Unit {0}
AreDistinct (place ∷ places) = (is_one_of places place ≡ false) × AreDistinct places

-- so many places have a value: these and no others
pub record HasLive (stored : Place → Stored) (count : ℕ) : Type 0 where
  pub places : List Place
  pub distinct : AreDistinct places
  pub exactly : (place : Place) → is_one_of places place ≡ is_some (stored place).1
  pub counted : length places ≡ count
