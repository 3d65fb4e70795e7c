-- What follows where the links agree with the lists.
use Rattle.std.proofs.Common.{◌≡◌, ◌≢◌, ◌⊎◌, ℕ, ◌<◌, Bool, true, false, List, [], Option, Some, None, length, get_or, refl, sym, ap, subst, ◌∙◌, arith, inl, inr}
use Rattle.std.proofs.lemmas.List.{get_or_past}
use Rattle.std.proofs.lemmas.Bool.{cases_eq, cases_lt}
use Rattle.cl_lists.specs.declared.slots.Link.{Link}
use Rattle.cl_lists.specs.declared.slots.Ends.{Ends}
use Rattle.cl_lists.specs.SlotList.{has}
use Rattle.cl_lists.specs.Lists.{list_at}
use Rattle.cl_lists.specs.Links.{IsInside, IsPosition, IsLinked}

-- two positions are the same or not
pub cases_position : (a b : Option ℕ) → (a ≡ b) ⊎ (a ≢ b)
cases_position None None = inl refl
cases_position None (Some b) = inr (λ e. grind arith)
cases_position (Some a) None = inr (λ e. grind arith)
cases_position (Some a) (Some b) = elim (cases_eq a b) [ inl e ↦ inl (ap Some e) | inr differ ↦ inr (λ e. differ (grind arith)) ]

module _ (links : List Link) (ends : List Ends) (used : List Bool) (lists : List (List ℕ)) (linked : IsLinked links ends used lists) where
  -- a slot on a list is one of the slots
  pub inside-linked : (number slot : ℕ) → has (list_at lists number) slot ≡ true → slot < length links
  inside-linked number slot there =
      elim (cases_lt slot (length links)) [ inl below ↦ below | inr past ↦ absurd (grind (arith, get_or_past used slot false, linked.as_long, linked.in_use number slot there)) ]

  -- a list with a slot is one of the lists
  pub exists-linked : (number slot : ℕ) → has (list_at lists number) slot ≡ true → number < length lists
  exists-linked number slot there =
      elim (cases_lt number (length lists)) [ inl below ↦ below | inr past ↦ absurd (grind (arith, get_or_past lists number [], there)) ]

  pub IsInside-linked : (number : ℕ) (position : Option ℕ) → number < length ends → IsPosition (list_at lists number) position → IsInside links ends number position
  IsInside-linked number None exists there = exists
  IsInside-linked number (Some slot) exists there = inside-linked number slot there

  -- a slot that is not in use is on no list
  pub absent-linked : (number slot : ℕ) → get_or used slot false ≡ false → has (list_at lists number) slot ≡ false
  absent-linked number slot free = grind (arith, linked.in_use number slot)

  -- two lists have no slot in common
  pub apart-linked : (number other : ℕ) (at position : Option ℕ) → other ≢ number → IsPosition (list_at lists number) at → IsPosition (list_at lists other) position → (slot : ℕ) → position ≡ Some slot → at ≡ Some slot → ⊥
  apart-linked number other at position differ here there slot is_position is_at =
      let on_other = linked.numbered other slot (subst (IsPosition (list_at lists other)) is_position there) in
      let on_this = linked.numbered number slot (subst (IsPosition (list_at lists number)) is_at here) in
      differ (sym on_other ∙ on_this)

-- what the links say at each position of the new lists, where one list alone is new
pub read_at_each : (lists new : List (List ℕ)) (number : ℕ) (list : List ℕ) → list_at new number ≡ list → ((n : ℕ) → n ≢ number → list_at new n ≡ list_at lists n) → (read : ℕ → Option ℕ → Option ℕ) (said : List ℕ → Option ℕ → Option ℕ) → ((position : Option ℕ) → IsPosition list position → read number position ≡ said list position) → ((n : ℕ) → n ≢ number → (position : Option ℕ) → IsPosition (list_at lists n) position → read n position ≡ said (list_at lists n) position) → (n : ℕ) (position : Option ℕ) → IsPosition (list_at new n) position → read n position ≡ said (list_at new n) position
read_at_each lists new number list is kept read said here elsewhere n position there = elim (cases_eq n number) [
  | inl same ↦ subst (λ m. read m position ≡ said (list_at new m) position) (sym same)
      (rw is (here position (subst (λ xs. IsPosition xs position) is (subst (λ m. IsPosition (list_at new m) position) same there))))
  | inr differ ↦ rw (kept n differ) (elsewhere n differ position (subst (λ xs. IsPosition xs position) (kept n differ) there))
]
