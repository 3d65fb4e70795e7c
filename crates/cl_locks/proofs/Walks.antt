-- A walk along a list of slots, from the first to the last.
use Rattle.std.proofs.Common.{◌≡◌, ◌≢◌, ℕ, ◌<◌, Bool, true, false, cond, List, [], ◌∷◌, ◌++◌, length, Option, Some, None, find, refl, sym, ap, ◌∙◌, subst, append_assoc, eqb, arith}
use Rattle.std.specs.List.{filter_map, cons_option}
use Rattle.std.proofs.lemmas.Bool.{both_ways, eq-eqb, eqb-false, ne_eqb, or_right, or_parts, and_parts}
use Rattle.std.proofs.lemmas.List.{append-nil}
use Rattle.std.proofs.lemmas.List.Elements.{filter_map-append}
use Rattle.std.proofs.lemmas.List.Folds.{find-append}
use Rattle.std.proofs.lemmas.Option.{same_Some}
use Rattle.cl_lists.specs.declared.arena.Arena.{Arena}
use Rattle.cl_lists.specs.declared.slots.Side.{Side}
use Rattle.cl_lists.specs.Arena.{list_of, item_at, Unlinks}
use Rattle.cl_lists.specs.SlotList.{has, is_distinct, first_of, after_in}
use Rattle.cl_lists.proofs.ArenaLaws.{is_placed, list_of-unlinked_same}
use Rattle.cl_lists.proofs.SlotListLemmas.{has-append, has-head, absent-front, after_in-split, is_distinct-append_apart}
use Rattle.cl_locks.specs.Grants.{Grant}

-- the list from a slot on
abbrev pub from_slot : List ℕ → Option ℕ → List ℕ
from_slot list None = []
from_slot [] (Some slot) = []
from_slot (other ∷ list) (Some slot) = cond (eqb other slot) (other ∷ list) (from_slot list (Some slot))

-- the walk has come to `next`: the list is what it has passed, and the rest
pub record IsWalked (list : List ℕ) (next : Option ℕ) (front back : List ℕ) : Type 0 where
  pub whole : list ≡ front ++ back
  pub here : next ≡ first_of back

-- ---- one step

abbrev pub tail_of : List ℕ → List ℕ
tail_of [] = []
tail_of (slot ∷ rest) = rest

first-split : (back : List ℕ) (slot : ℕ) → first_of back ≡ Some slot → back ≡ slot ∷ tail_of back
first-split [] slot first = absurd cc
first-split (x ∷ back) slot first = ap (λ y. y ∷ back) (same_Some x slot first)

first-none : (back : List ℕ) → first_of back ≡ None → back ≡ []
first-none [] first = refl
first-none (x ∷ back) first = absurd cc

module _ (list front back : List ℕ) (next : Option ℕ) (walked : IsWalked list next front back) where
  -- where the walk is at a slot
  pub walked-at : (slot : ℕ) → next ≡ Some slot → list ≡ front ++ slot ∷ tail_of back
  walked-at slot at = walked.whole ∙ ap (λ xs. front ++ xs) (first-split back slot (sym walked.here ∙ at))

  -- where it is at its end
  pub walked-all : next ≡ None → list ≡ front
  walked-all end = walked.whole ∙ ap (λ xs. front ++ xs) (first-none back (sym walked.here ∙ end)) ∙ append-nil front

  pub walked-on : (slot : ℕ) → next ≡ Some slot → has list slot ≡ true
  walked-on slot at =
      subst (λ xs. has xs slot ≡ true) (sym (walked-at slot at))
      (has-append front (slot ∷ tail_of back) slot ∙ or_right (has front slot) (has (slot ∷ tail_of back) slot) (has-head slot (tail_of back)))

  pub walked-next : (slot : ℕ) (then : Option ℕ) → is_distinct list ≡ true → next ≡ Some slot → then ≡ after_in list slot → IsWalked list then (front ++ slot ∷ []) (tail_of back)
  walked-next slot then distinct at after = record {
    whole = walked-at slot at ∙ sym (append_assoc front (slot ∷ []) (tail_of back));
    here = after ∙ ap (λ xs. after_in xs slot) (walked-at slot at) ∙ after_in-split front slot (tail_of back) (subst (λ xs. is_distinct xs ≡ true) (walked-at slot at) distinct);
  }

  -- the walk without the slot where it is
  pub walked-without : (slot : ℕ) (then : Option ℕ) (new : List ℕ) → is_distinct list ≡ true → next ≡ Some slot → then ≡ after_in list slot → new ≡ front ++ tail_of back → IsWalked new then front (tail_of back)
  walked-without slot then new distinct at after is = record {
    whole = is;
    here = after ∙ ap (λ xs. after_in xs slot) (walked-at slot at) ∙ after_in-split front slot (tail_of back) (subst (λ xs. is_distinct xs ≡ true) (walked-at slot at) distinct);
  }

-- ---- what is left

from_slot-first : (list : List ℕ) → from_slot list (first_of list) ≡ list
from_slot-first [] = refl
from_slot-first (x ∷ list) = rw (eq-eqb x x refl)

from_slot-past : (x : ℕ) (front back : List ℕ) → is_distinct (x ∷ front ++ back) ≡ true → from_slot (x ∷ front ++ back) (first_of back) ≡ from_slot (front ++ back) (first_of back)
from_slot-past x front [] distinct = refl
from_slot-past x front (y ∷ back) distinct =
    let absent : has (y ∷ back) x ≡ false = is_distinct-append_apart (x ∷ front) (y ∷ back) x distinct (has-head x front) in
    rw (ne_eqb x y (λ same. both_ways (has (y ∷ back) x) absent (subst (λ z. has (y ∷ back) z ≡ true) (sym same) (has-head y back))))

from_slot-split : (front back : List ℕ) → is_distinct (front ++ back) ≡ true → from_slot (front ++ back) (first_of back) ≡ back
unfolding is_distinct
from_slot-split [] back distinct = from_slot-first back
from_slot-split (x ∷ front) back distinct = from_slot-past x front back distinct ∙ from_slot-split front back (and_parts _ _ distinct).1

pub from_slot-walked : (list front back : List ℕ) (next : Option ℕ) → IsWalked list next front back → is_distinct list ≡ true → from_slot list next ≡ back
from_slot-walked list front back next walked distinct =
    ap (from_slot list) walked.here
    ∙ ap (λ xs. from_slot xs (first_of back)) walked.whole
    ∙ from_slot-split front back (subst (λ xs. is_distinct xs ≡ true) walked.whole distinct)

length-tail : (back : List ℕ) (slot : ℕ) → first_of back ≡ Some slot → length (tail_of back) < length back
length-tail [] slot first = absurd cc
length-tail (x ∷ back) slot first = omega arith

-- each step leaves less
pub from_slot-smaller : (list new front more back : List ℕ) (next then : Option ℕ) (slot : ℕ) → IsWalked list next front back → IsWalked new then more (tail_of back) → is_distinct list ≡ true → is_distinct new ≡ true → next ≡ Some slot → length (from_slot new then) < length (from_slot list next)
from_slot-smaller list new front more back next then slot walked stepped distinct distinct_new at =
    let was = from_slot-walked list front back next walked distinct in
    let is = from_slot-walked new more (tail_of back) then stepped distinct_new in
    rw (was, is) (length-tail back slot (sym walked.here ∙ at))

-- ---- what the walk has passed

-- the grants that the walk has passed are so
pub record HasPassed (granted : Arena Grant) (Passed : List Grant → Type 0) (list : List ℕ) (next : Option ℕ) : Type 0 where
  pub front : List ℕ
  pub back : List ℕ
  pub walked : IsWalked list next front back
  pub passed : Passed (filter_map (item_at granted) front)

-- the grants of a list, of which the walk has passed the first
pub record StopsAt (granted : Arena Grant) (Passed : List Grant → Type 0) (list : List ℕ) (grant : Grant) : Type 0 where
  pub before : List Grant
  pub after : List Grant
  pub whole : filter_map (item_at granted) list ≡ before ++ grant ∷ after
  pub passed : Passed before

module _ (granted : Arena Grant) (Passed : List Grant → Type 0) where
  items_one : (slot : ℕ) (grant : Grant) (rest : List ℕ) → item_at granted slot ≡ Some grant → filter_map (item_at granted) (slot ∷ rest) ≡ grant ∷ filter_map (item_at granted) rest
  items_one slot grant rest has_item = ap (λ found. cons_option found (filter_map (item_at granted) rest)) has_item

  pub passed-next : (list : List ℕ) (next then : Option ℕ) (slot : ℕ) (grant : Grant) → HasPassed granted Passed list next → is_distinct list ≡ true → next ≡ Some slot → then ≡ after_in list slot → item_at granted slot ≡ Some grant → ((grants : List Grant) → Passed grants → Passed (grants ++ grant ∷ [])) → HasPassed granted Passed list then
  passed-next list next then slot grant so_far distinct at after has_item one_more = record {
    front = so_far.front ++ slot ∷ [];
    back = tail_of so_far.back;
    walked = walked-next list so_far.front so_far.back next so_far.walked slot then distinct at after;
    passed =
        subst Passed (sym (filter_map-append (item_at granted) so_far.front (slot ∷ []) ∙ ap (λ xs. filter_map (item_at granted) so_far.front ++ xs) (items_one slot grant [] has_item)))
        (one_more (filter_map (item_at granted) so_far.front) so_far.passed);
  }

  pub passed-at : (list : List ℕ) (next : Option ℕ) (slot : ℕ) (grant : Grant) → HasPassed granted Passed list next → next ≡ Some slot → item_at granted slot ≡ Some grant → StopsAt granted Passed list grant
  passed-at list next slot grant so_far at has_item = record {
    before = filter_map (item_at granted) so_far.front;
    after = filter_map (item_at granted) (tail_of so_far.back);
    whole =
        ap (filter_map (item_at granted)) (walked-at list so_far.front so_far.back next so_far.walked slot at)
        ∙ filter_map-append (item_at granted) so_far.front (slot ∷ tail_of so_far.back)
        ∙ ap (λ xs. filter_map (item_at granted) so_far.front ++ xs) (items_one slot grant (tail_of so_far.back) has_item);
    passed = so_far.passed;
  }

  pub passed-all : (list : List ℕ) (next : Option ℕ) → HasPassed granted Passed list next → next ≡ None → Passed (filter_map (item_at granted) list)
  passed-all list next so_far end = subst (λ xs. Passed (filter_map (item_at granted) xs)) (sym (walked-all list so_far.front so_far.back next so_far.walked end)) so_far.passed

  pub passed-on : (list : List ℕ) (next : Option ℕ) (slot : ℕ) → HasPassed granted Passed list next → next ≡ Some slot → has list slot ≡ true
  passed-on list next slot so_far at = walked-on list so_far.front so_far.back next so_far.walked slot at

  pub passed-smaller : (list : List ℕ) (next then : Option ℕ) (slot : ℕ) → HasPassed granted Passed list next → is_distinct list ≡ true → next ≡ Some slot → then ≡ after_in list slot → length (from_slot list then) < length (from_slot list next)
  passed-smaller list next then slot so_far distinct at after =
      from_slot-smaller list list so_far.front (so_far.front ++ slot ∷ []) so_far.back next then slot so_far.walked
      (walked-next list so_far.front so_far.back next so_far.walked slot then distinct at after) distinct distinct at

-- ---- where the walk takes a slot off the list

items-besides : (f g : ℕ → Option Grant) (list : List ℕ) (slot : ℕ) → has list slot ≡ false → ((other : ℕ) → other ≢ slot → g other ≡ f other) → filter_map g list ≡ filter_map f list
items-besides f g [] slot absent others = refl
items-besides f g (x ∷ list) slot absent others =
    let parts = or_parts (eqb x slot) (has list slot) absent in
    rw (others x (eqb-false x slot parts.0), items-besides f g list slot parts.1 others)

module _ (old new : Arena Grant) (Passed : List Grant → Type 0) (side : Side) (number : ℕ) (next then : Option ℕ) (slot : ℕ) (grant : Grant) (unlinks : Unlinks old new slot grant) (so_far : HasPassed old Passed (list_of old side number) next) (at : next ≡ Some slot) (after : then ≡ after_in (list_of old side number) slot) where
  split_here : list_of old side number ≡ so_far.front ++ slot ∷ tail_of so_far.back
  split_here = walked-at (list_of old side number) so_far.front so_far.back next so_far.walked slot at

  once_here : is_distinct (list_of old side number) ≡ true
  once_here = (is_placed old side).once number

  walked_on : IsWalked (list_of new side number) then so_far.front (tail_of so_far.back)
  walked_on =
      walked-without (list_of old side number) so_far.front so_far.back next so_far.walked slot then (list_of new side number) once_here at after
      (list_of-unlinked_same old new slot grant unlinks side number so_far.front (tail_of so_far.back) split_here)

  pub passed-without : HasPassed new Passed (list_of new side number) then
  passed-without = record {
    front = so_far.front;
    back = tail_of so_far.back;
    walked = walked_on;
    passed =
        subst Passed (sym (items-besides (item_at old) (item_at new) so_far.front slot (absent-front so_far.front slot (tail_of so_far.back) (subst (λ xs. is_distinct xs ≡ true) split_here once_here)) unlinks.updates.others))
        so_far.passed;
  }

  pub passed-without_smaller : length (from_slot (list_of new side number) then) < length (from_slot (list_of old side number) next)
  passed-without_smaller =
      from_slot-smaller (list_of old side number) (list_of new side number) so_far.front so_far.front so_far.back next then slot so_far.walked walked_on once_here ((is_placed new side).once number) at

-- ---- a search

-- the test finds none of the grants
abbrev pub FindsNone : (Grant → Bool) → List Grant → Type 0
FindsNone test grants = find test grants ≡ None

pub none-push : (test : Grant → Bool) (grants : List Grant) (grant : Grant) → FindsNone test grants → test grant ≡ false → FindsNone test (grants ++ grant ∷ [])
none-push test grants grant none fails = find-append test grants (grant ∷ []) ∙ rw (none, fails)

pub found-after : (test : Grant → Bool) (before : List Grant) (grant : Grant) (after : List Grant) → FindsNone test before → test grant ≡ true → find test (before ++ grant ∷ after) ≡ Some grant
found-after test before grant after none passes = find-append test before (grant ∷ after) ∙ rw (none, passes)
