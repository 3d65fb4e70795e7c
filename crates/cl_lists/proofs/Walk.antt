-- Walking along the links gives the lists that they agree with.
use Rattle.std.proofs.Common.{◌≡◌, ℕ, zero, suc, ◌<◌, ◌≤◌, Bool, true, false, List, [], ◌∷◌, Some, None, length, refl, sym, ap, subst, ◌∙◌, arith}
use Rattle.std.proofs.lemmas.List.{get_or-map, ext_get_or, length-map}
use Rattle.std.proofs.lemmas.Bool.Decides.{nat_tests}
use Rattle.cl_lists.specs.declared.slots.Link.{Link}
use Rattle.cl_lists.specs.declared.slots.Ends.{Ends}
use Rattle.cl_lists.specs.SlotList.{has, is_distinct, first_of, after_in, without}
use Rattle.cl_lists.specs.Lists.{list_at}
use Rattle.cl_lists.specs.Links.{link_at, IsLinked, walk, lists_of}
use Rattle.cl_lists.proofs.Linked.{inside-linked}
use Rattle.cl_lists.proofs.SlotListLemmas.{has-without, without-absent, is_distinct-without, has-head, has-tail, after_in-head}

pub length-without : (slot : ℕ) (list : List ℕ) → is_distinct list ≡ true → has list slot ≡ true → suc (length (without slot list)) ≡ length list
unfolding is_distinct
length-without slot [] distinct there = grind arith
length-without slot (x ∷ list) distinct there = grind (arith, nat_tests, length-without slot list, without-absent slot list)

-- a list of distinct slots below a bound is no longer than the bound
pub length-distinct_below : (bound : ℕ) (list : List ℕ) → is_distinct list ≡ true → ((slot : ℕ) → has list slot ≡ true → slot < bound) → length list ≤ bound
length-distinct_below zero [] distinct below = omega arith
length-distinct_below zero (x ∷ list) distinct below = absurd (omega (arith, below x (grind (arith, nat_tests))))
length-distinct_below (suc bound) list distinct below = by_last (has list bound) refl (length-distinct_below bound) where
  by_last : (b : Bool) → has list bound ≡ b → ((rest : List ℕ) → is_distinct rest ≡ true → ((slot : ℕ) → has rest slot ≡ true → slot < bound) → length rest ≤ bound) → length list ≤ suc bound
  by_last true there shorter =
      let short : length (without bound list) ≤ bound = shorter (without bound list) (is_distinct-without bound list distinct) (λ slot on. grind (arith, nat_tests, has-without bound list slot, below slot, on)) in
      omega (arith, short, length-without bound list distinct there)
  by_last false absent shorter =
      let short : length list ≤ bound = shorter list distinct (λ slot on. grind (arith, below slot on, absent, on)) in omega (arith, short)

after_in-tail : (x : ℕ) (list : List ℕ) (slot : ℕ) → is_distinct (x ∷ list) ≡ true → has list slot ≡ true → after_in (x ∷ list) slot ≡ after_in list slot
unfolding after_in is_distinct
after_in-tail x list slot distinct on = grind (arith, nat_tests)

is_distinct-tail : (x : ℕ) (list : List ℕ) → is_distinct (x ∷ list) ≡ true → is_distinct list ≡ true
unfolding is_distinct
is_distinct-tail x list distinct = grind arith

walk-list : (links : List Link) (most : ℕ) (list : List ℕ) → is_distinct list ≡ true → ((slot : ℕ) → has list slot ≡ true → (link_at links slot).next ≡ after_in list slot) → length list ≤ most → walk links most (first_of list) ≡ list
unfolding walk
walk-list links zero [] distinct next fits = refl
walk-list links (suc most) [] distinct next fits = refl
walk-list links zero (x ∷ list) distinct next fits = absurd (omega (arith, fits))
walk-list links (suc most) (x ∷ list) distinct next fits =
    ap (λ position. x ∷ walk links most position) (next x (has-head x list) ∙ after_in-head x list)
    ∙ ap (λ xs. x ∷ xs) (walk-list links most list (is_distinct-tail x list distinct)
    (λ slot on. next slot (has-tail x list slot on) ∙ after_in-tail x list slot distinct on) (omega (arith, fits)))

pub lists_of-linked : (links : List Link) (ends : List Ends) (used : List Bool) (lists : List (List ℕ)) → IsLinked links ends used lists → lists_of links ends ≡ lists
unfolding lists_of
lists_of-linked links ends used lists linked =
    ext_get_or [] (lists_of links ends) lists (length-map _ _ ∙ sym linked.as_many) (λ number below.
    let inside : number < length ends = subst (λ n. number < n) (length-map ends _) below in
    get_or-map _ ends number _ [] inside
    ∙ ap (walk links (length links)) (linked.next number None tt)
    ∙ walk-list links (length links) (list_at lists number) (linked.distinct number)
    (λ slot on. linked.next number (Some slot) on)
    (length-distinct_below (length links) (list_at lists number) (linked.distinct number) (inside-linked links ends used lists linked number)))
