-- What the table keeps, after a lock came or went.
use Rattle.std.proofs.Common.{◌≡◌, ℕ, Bool, true, false, cond, List, [], ◌∷◌, ◌++◌, Option, Some, None, option_map, find, filter, refl, sym, ap, ◌∙◌, subst, arith, inl, inr}
use Rattle.std.specs.List.{filter_map, cons_option}
use Rattle.std.proofs.lemmas.Bool.{cases_Bool, cases_eq, ne_eqb, both_ways}
use Rattle.cl_lists.specs.declared.arena.Arena.{Arena}
use Rattle.cl_lists.specs.declared.slots.Side.TheVariants.{X, Y}
use Rattle.cl_lists.specs.Arena.{list_of, item_at, items_on, Pushes, Unlinks}
use Rattle.cl_lists.specs.SlotList.{has}
use Rattle.cl_types.specs.declared.operations.Mode.{Mode}
use Rattle.cl_types.specs.declared.operations.TxnId.{TxnId}
use Rattle.cl_types.specs.Places.{Place, same_place}
use Rattle.cl_types.specs.Transactions.{same_txn}
use Rattle.cl_types.proofs.Places.{same_place-true, same_place-itself, same_place-symmetric}
use Rattle.cl_types.proofs.Transactions.{same_txn-true}
use Rattle.cl_locks.specs.Grants.{Grant, is_of, is_in_conflict, at_place, first_conflict, own_grant, without_txn, without_lock, are_compatible}
use Rattle.cl_locks.specs.Listed.{place_list, txn_list, IsListed, HasRoomFor, grants_on}
use Rattle.cl_locks.proofs.GrantLists.{filter-not_found, first_conflict-at_place, own_grant-at_place, without_txn-without}
use Rattle.cl_locks.proofs.Compatible.{go_before-at_place, are_compatible-without, are_compatible-push, own_grant-besides, without_lock-one, first_conflict-besides}
use Rattle.cl_locks.proofs.Listed.{grants_on-pushed, grants_on-unlinked, grants_on-unlinked_elsewhere}

-- at each place each two grants may stand together
abbrev pub IsCompatible : Arena Grant → Type 0
IsCompatible granted = (place : Place) → are_compatible (grants_on granted place) ≡ true

-- a grant that conflicts with none may come last
fits_last : (granted : Arena Grant) (grant : Grant) → IsCompatible granted → own_grant (grants_on granted grant.place) grant.txn grant.place ≡ None → first_conflict (grants_on granted grant.place) grant.txn grant.place grant.mode ≡ None → are_compatible (grants_on granted grant.place ++ grant ∷ []) ≡ true
unfolding grants_on
fits_last granted grant compatible only free =
    let items = items_on granted X (place_list grant.place.1) in
    are_compatible-push (at_place grant.place items) grant (compatible grant.place)
    (go_before-at_place items grant (sym (first_conflict-at_place items grant.txn grant.place grant.mode) ∙ free) (sym (own_grant-at_place items grant.txn grant.place) ∙ only))

pub compatible-pushed : (old new : Arena Grant) (grant : Grant) (slot : ℕ) → Pushes old new (place_list grant.place.1) (txn_list grant.txn) slot grant → HasRoomFor old grant → IsListed old → IsCompatible old → own_grant (grants_on old grant.place) grant.txn grant.place ≡ None → first_conflict (grants_on old grant.place) grant.txn grant.place grant.mode ≡ None → IsCompatible new
compatible-pushed old new grant slot pushes room listed compatible only free = λ place. elim (cases_Bool (same_place grant.place place)) [
  | inl same ↦
      subst (λ p. are_compatible (grants_on new p) ≡ true) (same_place-true grant.place place same)
      (rw (grants_on-pushed old new grant slot pushes room listed grant.place, same_place-itself grant.place) (fits_last old grant compatible only free))
  | inr differ ↦ rw (grants_on-pushed old new grant slot pushes room listed place, differ) (compatible place)
]

module _ (old new : Arena Grant) (slot : ℕ) (grant : Grant) (unlinks : Unlinks old new slot grant) (listed : IsListed old) where
  pub compatible-unlinked : IsCompatible old → IsCompatible new
  compatible-unlinked compatible = λ place. elim (cases_Bool (same_place place grant.place)) [
    | inl same ↦
        (let leaves = grants_on-unlinked old new slot grant unlinks listed in
        subst (λ p. are_compatible (grants_on new p) ≡ true) (sym (same_place-true place grant.place same))
        (rw leaves.is (are_compatible-without leaves.before grant leaves.after (rw leaves.was at (compatible grant.place)))))
    | inr differ ↦ rw (grants_on-unlinked_elsewhere old new slot grant unlinks listed place differ) (compatible place)
  ]

  -- what goes is no grant of another transaction
  pub without_txn-unlinked : (txn : TxnId) (place : Place) → same_txn txn grant.txn ≡ true → without_txn txn (grants_on new place) ≡ without_txn txn (grants_on old place)
  without_txn-unlinked txn place own = elim (cases_Bool (same_place place grant.place)) [
    | inl same ↦
        (let leaves = grants_on-unlinked old new slot grant unlinks listed in
        subst (λ p. without_txn txn (grants_on new p) ≡ without_txn txn (grants_on old p)) (sym (same_place-true place grant.place same))
        (rw (leaves.is, leaves.was) (sym (without_txn-without txn leaves.before grant leaves.after own))))
    | inr differ ↦ ap (without_txn txn) (grants_on-unlinked_elsewhere old new slot grant unlinks listed place differ)
  ]

  pub own_grant-unlinked : IsCompatible old → own_grant (grants_on new grant.place) grant.txn grant.place ≡ None
  own_grant-unlinked compatible =
      let leaves = grants_on-unlinked old new slot grant unlinks listed in
      rw leaves.is (own_grant-besides grant.place leaves.before grant leaves.after (rw leaves.was at (compatible grant.place)))

  pub first_conflict-unlinked : (mode : Mode) → first_conflict (grants_on old grant.place) grant.txn grant.place mode ≡ None → first_conflict (grants_on new grant.place) grant.txn grant.place mode ≡ None
  first_conflict-unlinked mode none =
      let leaves = grants_on-unlinked old new slot grant unlinks listed in
      rw leaves.is (first_conflict-besides leaves.before grant leaves.after grant.txn grant.place mode (rw leaves.was at none))

  -- at its place it was the only one of its transaction
  pub grants_on-without : IsCompatible old → (place : Place) → grants_on new place ≡ cond (same_place grant.place place) (without_lock grant.txn grant.place (grants_on old place)) (grants_on old place)
  grants_on-without compatible place = elim (cases_Bool (same_place grant.place place)) [
    | inl same ↦
        (let leaves = grants_on-unlinked old new slot grant unlinks listed in
        rw same
        (subst (λ p. grants_on new p ≡ without_lock grant.txn grant.place (grants_on old p)) (same_place-true grant.place place same)
        (rw (leaves.is, leaves.was) (sym (without_lock-one grant.place leaves.before grant leaves.after (rw leaves.was at (compatible grant.place)) (same_place-itself grant.place))))))
    | inr differ ↦ rw differ (grants_on-unlinked_elsewhere old new slot grant unlinks listed place (same_place-symmetric place grant.place ∙ differ))
  ]

  -- a lock of its transaction and place that comes last takes its place
  pub grants_on-replaced : IsCompatible old → (lock : Grant) → lock.txn ≡ grant.txn → lock.place ≡ grant.place → (after : Place → List Grant) → ((place : Place) → after place ≡ cond (same_place lock.place place) (grants_on new place ++ lock ∷ []) (grants_on new place)) →
      (place : Place) → after place ≡ cond (same_place grant.place place) (without_lock grant.txn grant.place (grants_on old place) ++ lock ∷ []) (grants_on old place)
  grants_on-replaced compatible lock same_owner there after gives place =
      gives place
      ∙ ap (λ p. cond (same_place p place) (grants_on new place ++ lock ∷ []) (grants_on new place)) there
      ∙ replaced (same_place grant.place place) refl
    where
      replaced : (b : Bool) → b ≡ same_place grant.place place → cond b (grants_on new place ++ lock ∷ []) (grants_on new place) ≡ cond b (without_lock grant.txn grant.place (grants_on old place) ++ lock ∷ []) (grants_on old place)
      replaced true same = ap (λ (gs : List Grant). gs ++ lock ∷ []) (grants_on-without compatible place ∙ rw (← same))
      replaced false differ = grants_on-without compatible place ∙ rw (← differ)

-- ---- what a search of the place's list says

pub first_conflict-found : (granted : Arena Grant) (txn : TxnId) (place : Place) (mode : Mode) (found : Option Grant) → find (is_in_conflict txn place mode) (items_on granted X (place_list place.1)) ≡ found → first_conflict (grants_on granted place) txn place mode ≡ option_map (λ (g : Grant). g.txn) found
unfolding grants_on first_conflict
first_conflict-found granted txn place mode found is =
    first_conflict-at_place (items_on granted X (place_list place.1)) txn place mode ∙ ap (λ o. option_map (λ (g : Grant). g.txn) o) is

pub own_grant-found : (granted : Arena Grant) (txn : TxnId) (place : Place) (found : Option Grant) → find (is_of txn place) (items_on granted X (place_list place.1)) ≡ found → own_grant (grants_on granted place) txn place ≡ found
unfolding grants_on own_grant
own_grant-found granted txn place found is = own_grant-at_place (items_on granted X (place_list place.1)) txn place ∙ is

-- ---- where no lock of a transaction is left

first_fails : (b : Bool) (grant : Grant) (rest : Option Grant) → cond b (Some grant) rest ≡ None → b ≡ false
first_fails true grant rest none = absurd cc
first_fails false grant rest none = refl

rest_none : (b : Bool) (grant : Grant) (rest : Option Grant) → cond b (Some grant) rest ≡ None → rest ≡ None
rest_none true grant rest none = absurd cc
rest_none false grant rest none = none

find-none_item : (test : Grant → Bool) (item : Option Grant) (rest : List Grant) (grant : Grant) → find test (cons_option item rest) ≡ None → item ≡ Some grant → test grant ≡ false
find-none_item test item rest grant none is = first_fails (test grant) grant (find test rest) (rw is at none)

find-none_rest : (test : Grant → Bool) (item : Option Grant) (rest : List Grant) → find test (cons_option item rest) ≡ None → find test rest ≡ None
find-none_rest test None rest none = none
find-none_rest test (Some grant) rest none = rest_none (test grant) grant (find test rest) none

find-none_at : (granted : Arena Grant) (test : Grant → Bool) (list : List ℕ) (slot : ℕ) (grant : Grant) → find test (filter_map (item_at granted) list) ≡ None → has list slot ≡ true → item_at granted slot ≡ Some grant → test grant ≡ false
find-none_at granted test [] slot grant none on has_item = absurd (both_ways (has [] slot) refl on)
find-none_at granted test (x ∷ list) slot grant none on has_item = elim (cases_eq x slot) [
  | inl same ↦ find-none_item test (item_at granted x) (filter_map (item_at granted) list) grant none (ap (item_at granted) same ∙ has_item)
  | inr differ ↦
      find-none_at granted test list slot grant (find-none_rest test (item_at granted x) (filter_map (item_at granted) list) none)
      (rw (ne_eqb x slot differ) at on) has_item
]

find-cons : (test : Grant → Bool) (item : Option Grant) (rest : List Grant) → ((grant : Grant) → item ≡ Some grant → test grant ≡ false) → find test rest ≡ None → find test (cons_option item rest) ≡ None
find-cons test None rest fails none = none
find-cons test (Some grant) rest fails none = rw (fails grant refl) none

-- where no lock meets the test, none of a list does
find-nowhere : (granted : Arena Grant) (test : Grant → Bool) → ((slot : ℕ) (grant : Grant) → item_at granted slot ≡ Some grant → test grant ≡ false) → (list : List ℕ) → find test (filter_map (item_at granted) list) ≡ None
find-nowhere granted test fails [] = refl
find-nowhere granted test fails (slot ∷ list) = find-cons test (item_at granted slot) (filter_map (item_at granted) list) (fails slot) (find-nowhere granted test fails list)

not_own : (granted : Arena Grant) (txn : TxnId) → IsListed granted → find (λ grant. same_txn txn grant.txn) (items_on granted Y (txn_list txn)) ≡ None → (slot : ℕ) (grant : Grant) → item_at granted slot ≡ Some grant → (b : Bool) → same_txn txn grant.txn ≡ b → same_txn txn grant.txn ≡ false
not_own granted txn listed none slot grant has_item false e = e
not_own granted txn listed none slot grant has_item true e =
    find-none_at granted (λ grant. same_txn txn grant.txn) (list_of granted Y (txn_list txn)) slot grant none
    (subst (λ t. has (list_of granted Y (txn_list t)) slot ≡ true) (sym (same_txn-true txn grant.txn e)) (listed.by_txn slot grant has_item)) has_item

find-kept_out : (test keep : Grant → Bool) (grants : List Grant) → find test grants ≡ None → find test (filter keep grants) ≡ None
find-kept_out test keep [] none = refl
find-kept_out test keep (x ∷ xs) none = grind (arith, find-kept_out test keep xs)

pub without_txn-none : (granted : Arena Grant) (txn : TxnId) → IsListed granted → find (λ grant. same_txn txn grant.txn) (items_on granted Y (txn_list txn)) ≡ None → (place : Place) → without_txn txn (grants_on granted place) ≡ grants_on granted place
unfolding grants_on without_txn at_place
without_txn-none granted txn listed none place =
    let gone = λ (slot : ℕ) (grant : Grant) (has_item : item_at granted slot ≡ Some grant).
    not_own granted txn listed none slot grant has_item (same_txn txn grant.txn) refl in
    let items = items_on granted X (place_list place.1) in
    filter-not_found (λ (grant : Grant). same_txn txn grant.txn) (at_place place items)
    (find-kept_out (λ (grant : Grant). same_txn txn grant.txn) (λ (grant : Grant). same_place place grant.place) items
    (find-nowhere granted (λ (grant : Grant). same_txn txn grant.txn) gone (list_of granted X (place_list place.1))))
