-- The lists of the table, after a lock came or went.
use Rattle.std.proofs.Common.{◌≡◌, ◌≢◌, ℕ, ◌+◌, ◌<◌, ◌≤◌, true, false, cond, List, [], ◌∷◌, ◌++◌, replicate, Option, Some, None, Result, Ok, Err, OnOk, OnErr, refl, sym, ap, ◌∙◌, subst, arith, inl, inr}
use Rattle.std.specs.List.{filter_map}
use Rattle.std.proofs.lemmas.Bool.{cases_Bool, cases_eq, cases_lt, both_ways, or_left, or_right, and_from, not_from_false, ne_eqb}
use Rattle.std.proofs.lemmas.List.{get_or_past, append-nil}
use Rattle.std.proofs.lemmas.Option.{same_Some}
use Rattle.cl_lists.specs.declared.arena.Arena.{Arena}
use Rattle.cl_lists.specs.declared.slots.Side.{Side}
use Rattle.cl_lists.specs.declared.slots.Side.TheVariants.{X, Y}
use Rattle.cl_lists.specs.Arena.{lists_on, list_of, list_count, item_at, items_on, free_slots, Pushes, Unlinks}
use Rattle.cl_lists.specs.Lists.{list_at}
use Rattle.cl_lists.specs.Sides.{opposite, on_side}
use Rattle.cl_lists.specs.SlotList.{has}
use Rattle.cl_lists.proofs.ArenaLaws.{list_of-pushed_same, list_of-pushed_other, items_on-pushed_same, items_on-pushed_other, list_count-unlinked, list_of-unlinked, items_on-unlinked_same, items_on-unlinked_other, items_on-had, list_of-more}
use Rattle.cl_lists.proofs.SlotListLemmas.{has-append, has-without, has-head, split_at}
use Rattle.cl_types.specs.declared.operations.TxnId.{TxnId}
use Rattle.cl_types.specs.Places.{Place, same_place}
use Rattle.cl_types.proofs.Places.{same_place-true, same_place-itself, same_place-symmetric}
use Rattle.cl_locks.specs.declared.lock.TheConstants.{PLACE_LISTS, TXN_LISTS}
use Rattle.cl_locks.specs.Grants.{Grant, at_place}
use Rattle.cl_locks.specs.Listed.{place_list, txn_list, IsListed, IsKept, HasRoomFor, grants_on}
use Rattle.cl_locks.proofs.GrantLists.{at_place-append, at_place-none, at_place-one, at_place-another, at_place-without, at_place-with}

-- ---- a table without a lock

pub IsListed-new : (granted : Arena Grant) → ((slot : ℕ) → item_at granted slot ≡ None) → IsListed granted
IsListed-new granted empty = record {
  by_place = λ slot grant has_item. absurd (let e = empty slot in cc);
  by_txn = λ slot grant has_item. absurd (let e = empty slot in cc);
}

pub grants_on-new : (granted : Arena Grant) (place : Place) → lists_on granted X ≡ [] → grants_on granted place ≡ []
unfolding grants_on
grants_on-new granted place none =
    ap (λ lists. at_place place (filter_map (item_at granted) (list_at lists (place_list place.1)))) none ∙ at_place-none place

-- ---- where nothing came or went

filter_map-same : {A : Type 0} (f g : ℕ → Option A) (list : List ℕ) → ((slot : ℕ) → f slot ≡ g slot) → filter_map f list ≡ filter_map g list
filter_map-same f g [] same = refl
filter_map-same f g (slot ∷ list) same = rw (same slot, filter_map-same f g list same)

module _ (old new : Arena Grant) (kept : IsKept old new) where
  pub IsListed-kept : IsListed old → IsListed new
  IsListed-kept listed = record {
    by_place = λ slot grant has_item. subst (λ list. has list slot ≡ true) (sym (kept.lists X (place_list grant.place.1))) (listed.by_place slot grant (sym (kept.items slot) ∙ has_item));
    by_txn = λ slot grant has_item. subst (λ list. has list slot ≡ true) (sym (kept.lists Y (txn_list grant.txn))) (listed.by_txn slot grant (sym (kept.items slot) ∙ has_item));
  }

  pub grants_on-kept : (place : Place) → grants_on new place ≡ grants_on old place
  unfolding grants_on
  grants_on-kept place =
      ap (at_place place) (ap (filter_map (item_at new)) (kept.lists X (place_list place.1)) ∙ filter_map-same (item_at new) (item_at old) (list_of old X (place_list place.1)) kept.items)

-- empty lists came on one side
pub IsKept-more : (old new : Arena Grant) (side : Side) (count : ℕ) → lists_on new side ≡ lists_on old side ++ replicate count [] → lists_on new (opposite side) ≡ lists_on old (opposite side) → ((slot : ℕ) → item_at new slot ≡ item_at old slot) → IsKept old new
IsKept-more old new X count more rest items = record {
  lists = elim [ X ↦ (λ list. list_of-more old new X count list more) | Y ↦ (λ list. ap (λ lists. list_at lists list) rest) ];
  items = items;
}
IsKept-more old new Y count more rest items = record {
  lists = elim [ Y ↦ (λ list. list_of-more old new Y count list more) | X ↦ (λ list. ap (λ lists. list_at lists list) rest) ];
  items = items;
}

IsKept-sides : (old new : Arena Grant) (side : Side) → lists_on new side ≡ lists_on old side → lists_on new (opposite side) ≡ lists_on old (opposite side) → ((slot : ℕ) → item_at new slot ≡ item_at old slot) → IsKept old new
IsKept-sides old new X same rest items = record {
  lists = elim [ X ↦ (λ list. ap (λ lists. list_at lists list) same) | Y ↦ (λ list. ap (λ lists. list_at lists list) rest) ];
  items = items;
}
IsKept-sides old new Y same rest items = record {
  lists = elim [ Y ↦ (λ list. ap (λ lists. list_at lists list) same) | X ↦ (λ list. ap (λ lists. list_at lists list) rest) ];
  items = items;
}

-- whether or not they came
pub IsKept-added : {E : Type 0} (old new : Arena Grant) (side : Side) (count : ℕ) (result : Result (Unit {0}) E) → OnOk result (lists_on new side ≡ lists_on old side ++ replicate count []) → OnErr result (lists_on new side ≡ lists_on old side) → lists_on new (opposite side) ≡ lists_on old (opposite side) → ((slot : ℕ) → item_at new slot ≡ item_at old slot) → IsKept old new
IsKept-added old new side count (Ok x) more same rest items = IsKept-more old new side count more rest items
IsKept-added old new side count (Err e) more same rest items = IsKept-sides old new side same rest items

-- ---- a list that has a slot is there

pub list_of-exists : (granted : Arena Grant) (side : Side) (list slot : ℕ) → has (list_of granted side list) slot ≡ true → list < list_count granted side
list_of-exists granted side list slot on = elim (cases_lt list (list_count granted side)) [
  | inl below ↦ below
  | inr past ↦ absurd (both_ways (has [] slot) refl (subst (λ slots. has slots slot ≡ true) (get_or_past (lists_on granted side) list [] past) on))
]

pub place_list-below : (key : List ℕ) → place_list key < PLACE_LISTS
unfolding place_list
place_list-below key = omega arith

pub txn_list-below : (txn : TxnId) → txn_list txn < TXN_LISTS
unfolding txn_list
txn_list-below txn = omega arith

-- with all lists and a slot there is room for any grant
pub HasRoomFor-all : (granted : Arena Grant) (grant : Grant) → PLACE_LISTS ≤ list_count granted X → TXN_LISTS ≤ list_count granted Y → 1 ≤ free_slots granted → HasRoomFor granted grant
HasRoomFor-all granted grant places txns slot = record {
  place = omega (arith, place_list-below grant.place.1);
  txn = omega (arith, txn_list-below grant.txn);
  slot = slot;
}

-- ---- after a lock came

module _ (old new : Arena Grant) (grant : Grant) (slot : ℕ) (pushes : Pushes old new (place_list grant.place.1) (txn_list grant.txn) slot grant) (room : HasRoomFor old grant) (listed : IsListed old) where
  exists_own : (side : Side) → on_side side (place_list grant.place.1) (txn_list grant.txn) < list_count old side
  exists_own X = room.place
  exists_own Y = room.txn

  own_after : (side : Side) → list_of new side (on_side side (place_list grant.place.1) (txn_list grant.txn)) ≡ list_of old side (on_side side (place_list grant.place.1) (txn_list grant.txn)) ++ slot ∷ []
  own_after side = list_of-pushed_same old new (place_list grant.place.1) (txn_list grant.txn) slot grant pushes side (exists_own side)

  on_own : (side : Side) → has (list_of new side (on_side side (place_list grant.place.1) (txn_list grant.txn))) slot ≡ true
  on_own side =
      subst (λ slots. has slots slot ≡ true) (sym (own_after side))
      (has-append (list_of old side (on_side side (place_list grant.place.1) (txn_list grant.txn))) (slot ∷ []) slot ∙ or_right _ _ (has-head slot []))

  on_pushed : (side : Side) (list other : ℕ) → has (list_of old side list) other ≡ true → has (list_of new side list) other ≡ true
  on_pushed side list other on = elim (cases_eq list (on_side side (place_list grant.place.1) (txn_list grant.txn))) [
    | inl same ↦
        subst (λ n. has (list_of new side n) other ≡ true) (sym same)
        (subst (λ slots. has slots other ≡ true) (sym (own_after side))
        (has-append (list_of old side (on_side side (place_list grant.place.1) (txn_list grant.txn))) (slot ∷ []) other
        ∙ or_left _ _ (subst (λ n. has (list_of old side n) other ≡ true) same on)))
    | inr differ ↦
        subst (λ slots. has slots other ≡ true) (sym (list_of-pushed_other old new (place_list grant.place.1) (txn_list grant.txn) slot grant pushes side list differ)) on
  ]

  pub IsListed-pushed : IsListed new
  IsListed-pushed = record {
    by_place = λ other found has_item. elim (cases_eq other slot) [
      | inl same ↦
          (let at_slot : item_at new slot ≡ Some found = subst (λ s. item_at new s ≡ Some found) same has_item in
          let is : grant ≡ found = same_Some grant found (sym pushes.updates.changed ∙ at_slot) in
          subst (λ s. has (list_of new X (place_list found.place.1)) s ≡ true) (sym same)
          (subst (λ (g : Grant). has (list_of new X (place_list g.place.1)) slot ≡ true) is (on_own X)))
      | inr differ ↦ on_pushed X (place_list found.place.1) other (listed.by_place other found (sym (pushes.updates.others other differ) ∙ has_item))
    ];
    by_txn = λ other found has_item. elim (cases_eq other slot) [
      | inl same ↦
          (let at_slot : item_at new slot ≡ Some found = subst (λ s. item_at new s ≡ Some found) same has_item in
          let is : grant ≡ found = same_Some grant found (sym pushes.updates.changed ∙ at_slot) in
          subst (λ s. has (list_of new Y (txn_list found.txn)) s ≡ true) (sym same)
          (subst (λ (g : Grant). has (list_of new Y (txn_list g.txn)) slot ≡ true) is (on_own Y)))
      | inr differ ↦ on_pushed Y (txn_list found.txn) other (listed.by_txn other found (sym (pushes.updates.others other differ) ∙ has_item))
    ];
  }

  items_own : items_on new X (place_list grant.place.1) ≡ items_on old X (place_list grant.place.1) ++ grant ∷ []
  items_own = items_on-pushed_same old new (place_list grant.place.1) (txn_list grant.txn) slot grant pushes X room.place

  grants_on-pushed_own : grants_on new grant.place ≡ grants_on old grant.place ++ grant ∷ []
  unfolding grants_on
  grants_on-pushed_own =
      ap (at_place grant.place) items_own
      ∙ at_place-append grant.place (items_on old X (place_list grant.place.1)) (grant ∷ [])
      ∙ ap (λ gs. at_place grant.place (items_on old X (place_list grant.place.1)) ++ gs) (at_place-one grant.place grant (same_place-itself grant.place))

  grants_on-pushed_other : (place : Place) → same_place place grant.place ≡ false → grants_on new place ≡ grants_on old place
  unfolding grants_on
  grants_on-pushed_other place away = elim (cases_eq (place_list place.1) (place_list grant.place.1)) [
    | inl same ↦
        subst (λ n. at_place place (items_on new X n) ≡ at_place place (items_on old X n)) (sym same)
        (ap (at_place place) items_own
        ∙ at_place-append place (items_on old X (place_list grant.place.1)) (grant ∷ [])
        ∙ ap (λ gs. at_place place (items_on old X (place_list grant.place.1)) ++ gs) (at_place-another place grant away)
        ∙ append-nil (at_place place (items_on old X (place_list grant.place.1))))
    | inr differ ↦ ap (at_place place) (items_on-pushed_other old new (place_list grant.place.1) (txn_list grant.txn) slot grant pushes X (place_list place.1) differ)
  ]

  pub grants_on-pushed : (place : Place) → grants_on new place ≡ cond (same_place grant.place place) (grants_on old place ++ grant ∷ []) (grants_on old place)
  grants_on-pushed place = elim (cases_Bool (same_place grant.place place)) [
    | inl same ↦ rw same (subst (λ p. grants_on new p ≡ grants_on old p ++ grant ∷ []) (same_place-true grant.place place same) grants_on-pushed_own)
    | inr differ ↦ rw differ (grants_on-pushed_other place (same_place-symmetric place grant.place ∙ differ))
  ]

-- ---- after a lock went

-- a grant has left the list, whose other grants keep their order
pub record Leaves (old new : List Grant) (grant : Grant) : Type 0 where
  pub before : List Grant
  pub after : List Grant
  pub was : old ≡ before ++ grant ∷ after
  pub is : new ≡ before ++ after

module _ (old new : Arena Grant) (slot : ℕ) (grant : Grant) (unlinks : Unlinks old new slot grant) (listed : IsListed old) where
  differs : (other : ℕ) (found : Grant) → item_at new other ≡ Some found → other ≢ slot
  differs other found has_item same =
      let gone : item_at new other ≡ None = ap (item_at new) same ∙ unlinks.updates.changed in
      absurd cc

  stays_on : (side : Side) (list other : ℕ) → other ≢ slot → has (list_of old side list) other ≡ true → has (list_of new side list) other ≡ true
  stays_on side list other differ on =
      subst (λ slots. has slots other ≡ true) (sym (list_of-unlinked old new slot grant unlinks side list))
      (has-without slot (list_of old side list) other ∙ and_from _ _ (not_from_false _ (ne_eqb other slot differ)) on)

  pub IsListed-unlinked : IsListed new
  IsListed-unlinked = record {
    by_place = λ other found has_item.
        let differ = differs other found has_item in
        stays_on X (place_list found.place.1) other differ (listed.by_place other found (sym (unlinks.updates.others other differ) ∙ has_item));
    by_txn = λ other found has_item.
        let differ = differs other found has_item in
        stays_on Y (txn_list found.txn) other differ (listed.by_txn other found (sym (unlinks.updates.others other differ) ∙ has_item));
  }

  pub HasRoomFor-unlinked : free_slots new ≡ free_slots old + 1 → HasRoomFor new grant
  HasRoomFor-unlinked room = record {
    place = rw (list_count-unlinked old new slot grant unlinks X) (list_of-exists old X (place_list grant.place.1) slot (listed.by_place slot grant unlinks.had));
    txn = rw (list_count-unlinked old new slot grant unlinks Y) (list_of-exists old Y (txn_list grant.txn) slot (listed.by_txn slot grant unlinks.had));
    slot = omega arith;
  }

  pub grants_on-unlinked : Leaves (grants_on old grant.place) (grants_on new grant.place) grant
  unfolding grants_on
  grants_on-unlinked =
      let place = grant.place in
      let split = split_at (list_of old X (place_list place.1)) slot (listed.by_place slot grant unlinks.had) in
      let front = filter_map (item_at old) split.before in
      let back = filter_map (item_at old) split.after in
      record {
        before = at_place place front;
        after = at_place place back;
        was = ap (at_place place) (items_on-had old new slot grant unlinks X (place_list place.1) split.before split.after split.whole) ∙ at_place-with place front grant back (same_place-itself place);
        is = ap (at_place place) (items_on-unlinked_same old new slot grant unlinks X (place_list place.1) split.before split.after split.whole) ∙ at_place-append place front back;
      }

  pub grants_on-unlinked_elsewhere : (place : Place) → same_place place grant.place ≡ false → grants_on new place ≡ grants_on old place
  unfolding grants_on
  grants_on-unlinked_elsewhere place away = elim (cases_Bool (has (list_of old X (place_list place.1)) slot)) [
    | inl on ↦
        (let split = split_at (list_of old X (place_list place.1)) slot on in
        let front = filter_map (item_at old) split.before in
        let back = filter_map (item_at old) split.after in
        ap (at_place place) (items_on-unlinked_same old new slot grant unlinks X (place_list place.1) split.before split.after split.whole)
        ∙ sym (at_place-without place front grant back away)
        ∙ ap (at_place place) (sym (items_on-had old new slot grant unlinks X (place_list place.1) split.before split.after split.whole)))
    | inr absent ↦ ap (at_place place) (items_on-unlinked_other old new slot grant unlinks X (place_list place.1) absent)
  ]
