-- Grants that may stand together at one place.
use Rattle.std.proofs.Common.{◌≡◌, Bool, true, false, not, ◌&&◌, cond, List, [], ◌∷◌, ◌++◌, Option, Some, None, option_map, find, refl, sym, ap, ◌∙◌, subst, arith, inl, inr}
use Rattle.std.specs.List.{list_all}
use Rattle.std.proofs.lemmas.Bool.{cases_Bool, and_parts, and_from, and_left, not-true, not_from_true, both_ways}
use Rattle.std.proofs.lemmas.Option.{same_Some}
use Rattle.cl_types.specs.declared.operations.Mode.{Mode}
use Rattle.cl_types.specs.declared.operations.TxnId.{TxnId}
use Rattle.cl_types.specs.Modes.{is_conflict}
use Rattle.cl_types.specs.Places.{Place, same_place}
use Rattle.cl_types.specs.Transactions.{same_txn}
use Rattle.cl_types.proofs.Modes.{is_conflict-symmetric}
use Rattle.cl_types.proofs.Transactions.{same_txn-true, same_txn-itself, same_txn-symmetric}
use Rattle.cl_locks.specs.Grants.{Grant, is_of, is_in_conflict, first_conflict, own_grant, mode_held, at_place, without_lock, is_compatible, are_compatible}
use Rattle.cl_locks.proofs.GrantLists.{find-without, mapped_none, filter-without, filter-not_found}

-- whether each grant may stand together with this one after them
abbrev pub go_before : List Grant → Grant → Bool
go_before grants grant = list_all (λ other. is_compatible other grant) grants

list_all-without : {A : Type 0} (p : A → Bool) (xs : List A) (x : A) (ys : List A) → list_all p (xs ++ x ∷ ys) ≡ true → list_all p (xs ++ ys) ≡ true
list_all-without p [] x ys all = grind arith
list_all-without p (y ∷ xs) x ys all = grind (arith, list_all-without p xs x ys)

list_all-push : {A : Type 0} (p : A → Bool) (xs : List A) (x : A) → list_all p xs ≡ true → p x ≡ true → list_all p (xs ++ x ∷ []) ≡ true
list_all-push p [] x all this = grind arith
list_all-push p (y ∷ xs) x all this = grind (arith, list_all-push p xs x)

pub are_compatible-without : (xs : List Grant) (grant : Grant) (ys : List Grant) → are_compatible (xs ++ grant ∷ ys) ≡ true → are_compatible (xs ++ ys) ≡ true
unfolding are_compatible
are_compatible-without [] grant ys all = (and_parts _ _ all).1
are_compatible-without (x ∷ xs) grant ys all =
    and_from _ _ (list_all-without (is_compatible x) xs grant ys (and_parts _ _ all).0) (are_compatible-without xs grant ys (and_parts _ _ all).1)

pub are_compatible-push : (grants : List Grant) (grant : Grant) → are_compatible grants ≡ true → go_before grants grant ≡ true → are_compatible (grants ++ grant ∷ []) ≡ true
unfolding are_compatible
are_compatible-push [] grant all before = refl
are_compatible-push (x ∷ xs) grant all before =
    and_from _ _ (list_all-push (is_compatible x) xs grant (and_parts _ _ all).0 (and_parts _ _ before).0) (are_compatible-push xs grant (and_parts _ _ all).1 (and_parts _ _ before).1)

pub are_compatible-none : are_compatible [] ≡ true
unfolding are_compatible
are_compatible-none = refl

-- ---- a grant that conflicts with none may come last

go_before-step : (here own conflict : Bool) → (here && (not own && conflict)) ≡ false → (own && here) ≡ false → here ≡ true → (not own && not conflict) ≡ true
go_before-step true true conflict apart other there = sym other
go_before-step true false true apart other there = sym apart
go_before-step true false false apart other there = refl
go_before-step false own conflict apart other there = absurd (both_ways false refl there)

find-none_head : {A : Type 0} (p : A → Bool) (x : A) (xs : List A) → find p (x ∷ xs) ≡ None → p x ≡ false
find-none_head p x xs none = grind arith

find-none_tail : {A : Type 0} (p : A → Bool) (x : A) (xs : List A) → find p (x ∷ xs) ≡ None → find p xs ≡ None
find-none_tail p x xs none = grind arith

go_before_one : (grant other : Grant) → is_in_conflict grant.txn grant.place grant.mode other ≡ false → is_of grant.txn grant.place other ≡ false → same_place grant.place other.place ≡ true → is_compatible other grant ≡ true
go_before_one grant other apart none here =
    subst (λ b. (not b && not (is_conflict (Some other.mode) (Some grant.mode))) ≡ true) (same_txn-symmetric grant.txn other.txn)
    (go_before-step (same_place grant.place other.place) (same_txn grant.txn other.txn) (is_conflict (Some other.mode) (Some grant.mode)) apart none here)

go_before-filtered : (grant : Grant) (grants : List Grant) → find (is_in_conflict grant.txn grant.place grant.mode) grants ≡ None → find (is_of grant.txn grant.place) grants ≡ None → go_before (at_place grant.place grants) grant ≡ true
unfolding at_place
go_before-filtered grant [] apart none = refl
go_before-filtered grant (x ∷ xs) apart none =
    let rest = go_before-filtered grant xs (find-none_tail (is_in_conflict grant.txn grant.place grant.mode) x xs apart) (find-none_tail (is_of grant.txn grant.place) x xs none) in
    elim (cases_Bool (same_place grant.place x.place)) [
      | inl here ↦ rw here (and_from _ _ (go_before_one grant x (find-none_head (is_in_conflict grant.txn grant.place grant.mode) x xs apart) (find-none_head (is_of grant.txn grant.place) x xs none) here) rest)
      | inr away ↦ rw away rest
    ]

-- a grant that conflicts with none of other transactions, and is its transaction's only one, may come last at its place
pub go_before-at_place : (grants : List Grant) (grant : Grant) → first_conflict grants grant.txn grant.place grant.mode ≡ None → own_grant grants grant.txn grant.place ≡ None → go_before (at_place grant.place grants) grant ≡ true
unfolding first_conflict own_grant
go_before-at_place grants grant apart none = go_before-filtered grant grants (mapped_none (λ (g : Grant). g.txn) _ apart) none

-- ---- each transaction has one grant at a place

not_of-compatible : (place : Place) (grant other : Grant) → is_compatible grant other ≡ true → is_of grant.txn place other ≡ false
not_of-compatible place grant other fits = and_left _ _ (not-true (same_txn grant.txn other.txn) (and_parts _ _ fits).0)

not_of-compatible_before : (place : Place) (grant other : Grant) → is_compatible other grant ≡ true → is_of grant.txn place other ≡ false
not_of-compatible_before place grant other fits = and_left _ _ (same_txn-symmetric grant.txn other.txn ∙ not-true (same_txn other.txn grant.txn) (and_parts _ _ fits).0)

none_after : (place : Place) (grant : Grant) (grants : List Grant) → list_all (is_compatible grant) grants ≡ true → find (is_of grant.txn place) grants ≡ None
none_after place grant [] all = refl
none_after place grant (x ∷ xs) all = rw (not_of-compatible place grant x (and_parts _ _ all).0) (none_after place grant xs (and_parts _ _ all).1)

list_all-middle : {A : Type 0} (p : A → Bool) (xs : List A) (x : A) (ys : List A) → list_all p (xs ++ x ∷ ys) ≡ true → p x ≡ true
list_all-middle p [] x ys all = grind arith
list_all-middle p (y ∷ xs) x ys all = grind (arith, list_all-middle p xs x ys)

none_besides : (place : Place) (xs : List Grant) (grant : Grant) (ys : List Grant) → are_compatible (xs ++ grant ∷ ys) ≡ true → find (is_of grant.txn place) (xs ++ ys) ≡ None
unfolding are_compatible
none_besides place [] grant ys all = none_after place grant ys (and_parts _ _ all).0
none_besides place (x ∷ xs) grant ys all =
    rw (not_of-compatible_before place grant x (list_all-middle (is_compatible x) xs grant ys (and_parts _ _ all).0)) (none_besides place xs grant ys (and_parts _ _ all).1)

-- without its grant a transaction has none at the place
pub own_grant-besides : (place : Place) (xs : List Grant) (grant : Grant) (ys : List Grant) → are_compatible (xs ++ grant ∷ ys) ≡ true → own_grant (xs ++ ys) grant.txn place ≡ None
unfolding own_grant
own_grant-besides place xs grant ys all = none_besides place xs grant ys all

-- so it is the one that goes where the transaction's lock at the place goes
pub without_lock-one : (place : Place) (xs : List Grant) (grant : Grant) (ys : List Grant) → are_compatible (xs ++ grant ∷ ys) ≡ true → same_place place grant.place ≡ true → without_lock grant.txn place (xs ++ grant ∷ ys) ≡ xs ++ ys
unfolding without_lock
without_lock-one place xs grant ys all here =
    filter-without (λ g. not (is_of grant.txn place g)) xs grant ys (not_from_true _ (and_from _ _ (same_txn-itself grant.txn) here))
    ∙ filter-not_found (is_of grant.txn place) (xs ++ ys) (none_besides place xs grant ys all)

-- no conflict stays so with fewer grants
pub first_conflict-besides : (xs : List Grant) (grant : Grant) (ys : List Grant) (txn : TxnId) (place : Place) (mode : Mode) → first_conflict (xs ++ grant ∷ ys) txn place mode ≡ None → first_conflict (xs ++ ys) txn place mode ≡ None
unfolding first_conflict
first_conflict-besides xs grant ys txn place mode none =
    ap (λ found. option_map (λ (g : Grant). g.txn) found) (find-without (is_in_conflict txn place mode) xs grant ys (mapped_none (λ (g : Grant). g.txn) _ none))

-- ---- no conflict, by what each transaction holds

mode_held-head : (grant : Grant) (grants : List Grant) (txn : TxnId) (place : Place) → is_of txn place grant ≡ true → mode_held (grant ∷ grants) txn place ≡ Some grant.mode
unfolding own_grant
mode_held-head grant grants txn place own = rw own

mode_held-tail : (grant : Grant) (grants : List Grant) (txn : TxnId) (place : Place) → is_of txn place grant ≡ false → mode_held (grant ∷ grants) txn place ≡ mode_held grants txn place
unfolding own_grant
mode_held-tail grant grants txn place other = rw other

mode_held-after : (grant : Grant) (grants : List Grant) (txn : TxnId) (place : Place) → list_all (is_compatible grant) grants ≡ true → same_txn txn grant.txn ≡ true → mode_held grants txn place ≡ None
unfolding own_grant
mode_held-after grant grants txn place all same =
    ap (λ found. option_map (λ (g : Grant). g.mode) found) (subst (λ t. find (is_of t place) grants ≡ None) (sym (same_txn-true txn grant.txn same)) (none_after place grant grants all))

-- no other transaction holds the place in a mode that conflicts
abbrev pub NoOtherConflicts : List Grant → TxnId → Place → Mode → Type 0
NoOtherConflicts grants txn place mode = (other : TxnId) → same_txn txn other ≡ false → is_conflict (mode_held grants other place) (Some mode) ≡ false

no_other-tail : (grant : Grant) (grants : List Grant) (txn : TxnId) (place : Place) (mode : Mode) → list_all (is_compatible grant) grants ≡ true → NoOtherConflicts (grant ∷ grants) txn place mode → NoOtherConflicts grants txn place mode
no_other-tail grant grants txn place mode all apart = λ other differ. elim (cases_Bool (same_txn other grant.txn)) [
  | inl same ↦ ap (λ held. is_conflict held (Some mode)) (mode_held-after grant grants other place all same)
  | inr another ↦ ap (λ held. is_conflict held (Some mode)) (sym (mode_held-tail grant grants other place (and_left _ _ another))) ∙ apart other differ
]

no_conflict_head : (grant : Grant) (grants : List Grant) (txn : TxnId) (place : Place) (mode : Mode) → NoOtherConflicts (grant ∷ grants) txn place mode → is_in_conflict txn place mode grant ≡ false
no_conflict_head grant grants txn place mode apart = elim (cases_Bool (same_place place grant.place)) [
  | inr away ↦ rw away
  | inl here ↦ elim (cases_Bool (same_txn txn grant.txn)) [
    | inl same ↦ rw (here, same)
    | inr differ ↦ rw (here, differ) (ap (λ held. is_conflict held (Some mode)) (sym (mode_held-head grant grants grant.txn place (and_from _ _ (same_txn-itself grant.txn) here))) ∙ apart grant.txn differ)
  ]
]

no_conflict_found : (grants : List Grant) (txn : TxnId) (place : Place) (mode : Mode) → are_compatible grants ≡ true → NoOtherConflicts grants txn place mode → find (is_in_conflict txn place mode) grants ≡ None
unfolding are_compatible
no_conflict_found [] txn place mode all apart = refl
no_conflict_found (x ∷ xs) txn place mode all apart =
    rw (no_conflict_head x xs txn place mode apart) (no_conflict_found xs txn place mode (and_parts _ _ all).1 (no_other-tail x xs txn place mode (and_parts _ _ all).0 apart))

pub first_conflict-none : (grants : List Grant) (txn : TxnId) (place : Place) (mode : Mode) → are_compatible grants ≡ true → NoOtherConflicts grants txn place mode → first_conflict grants txn place mode ≡ None
unfolding first_conflict
first_conflict-none grants txn place mode all apart = ap (λ found. option_map (λ (g : Grant). g.txn) found) (no_conflict_found grants txn place mode all apart)

-- ---- modes of two transactions

-- a grant's mode does not conflict with what is held by a later one
fits_held : (grant : Grant) (grants : List Grant) (txn : TxnId) (place : Place) → list_all (is_compatible grant) grants ≡ true → is_conflict (Some grant.mode) (mode_held grants txn place) ≡ false
unfolding own_grant
fits_held grant [] txn place all = refl
fits_held grant (x ∷ xs) txn place all = elim (cases_Bool (is_of txn place x)) [
  | inl own ↦ rw own (not-true (is_conflict (Some grant.mode) (Some x.mode)) (and_parts _ _ (and_parts _ _ all).0).1)
  | inr other ↦ rw other (fits_held grant xs txn place (and_parts _ _ all).1)
]

not_of-another : (a b : TxnId) (place : Place) (grant : Grant) → same_txn a b ≡ false → is_of a place grant ≡ true → is_of b place grant ≡ false
not_of-another a b place grant differ own =
    and_left _ _ (subst (λ t. same_txn b t ≡ false) (same_txn-true a grant.txn (and_parts _ _ own).0) (same_txn-symmetric b a ∙ differ))

pub is_conflict-held : (grants : List Grant) (a b : TxnId) (place : Place) → are_compatible grants ≡ true → same_txn a b ≡ false → is_conflict (mode_held grants a place) (mode_held grants b place) ≡ false
unfolding are_compatible own_grant
is_conflict-held [] a b place all differ = refl
is_conflict-held (x ∷ xs) a b place all differ = elim (cases_Bool (is_of a place x)) [
  | inl first ↦
      rw (first, not_of-another a b place x differ first)
      (fits_held x xs b place (and_parts _ _ all).0)
  | inr not_first ↦ elim (cases_Bool (is_of b place x)) [
    | inl second ↦ rw (not_first, second) (is_conflict-symmetric (mode_held xs a place) (Some x.mode) ∙ fits_held x xs a place (and_parts _ _ all).0)
    | inr not_second ↦ rw (not_first, not_second) (is_conflict-held xs a b place (and_parts _ _ all).1 differ)
  ]
]

-- ---- what a first conflict means

-- the holder is another transaction, in a mode that conflicts
pub record HoldsAgainst (grants : List Grant) (txn : TxnId) (place : Place) (mode : Mode) (holder : TxnId) : Type 0 where
  pub another : same_txn txn holder ≡ false
  pub conflict : is_conflict (mode_held grants holder place) (Some mode) ≡ true

first_holds : (grant : Grant) (grants : List Grant) (txn : TxnId) (place : Place) (mode : Mode) → is_in_conflict txn place mode grant ≡ true → HoldsAgainst (grant ∷ grants) txn place mode grant.txn
first_holds grant grants txn place mode conflict =
    let parts = and_parts (same_place place grant.place) _ conflict in
    let rest = and_parts (not (same_txn txn grant.txn)) _ parts.1 in
    record {
      another = not-true (same_txn txn grant.txn) rest.0;
      conflict = ap (λ held. is_conflict held (Some mode)) (mode_held-head grant grants grant.txn place (and_from _ _ (same_txn-itself grant.txn) parts.0)) ∙ rest.1;
    }

later_holds : (grant : Grant) (grants : List Grant) (txn : TxnId) (place : Place) (mode : Mode) (holder : TxnId) → list_all (is_compatible grant) grants ≡ true → HoldsAgainst grants txn place mode holder → HoldsAgainst (grant ∷ grants) txn place mode holder
later_holds grant grants txn place mode holder all holds = record {
  another = holds.another;
  conflict = elim (cases_Bool (is_of holder place grant)) [
    | inl own ↦ absurd (both_ways (is_conflict (mode_held grants holder place) (Some mode)) (ap (λ held. is_conflict held (Some mode)) (mode_held-after grant grants holder place all (and_parts _ _ own).0)) holds.conflict)
    | inr other ↦ ap (λ held. is_conflict held (Some mode)) (mode_held-tail grant grants holder place other) ∙ holds.conflict
  ];
}

first_conflict_by : (b : Bool) (grant : Grant) (grants : List Grant) (txn : TxnId) (place : Place) (mode : Mode) (holder : TxnId) (found : Option Grant) → is_in_conflict txn place mode grant ≡ b → list_all (is_compatible grant) grants ≡ true → (option_map (λ (g : Grant). g.txn) found ≡ Some holder → HoldsAgainst grants txn place mode holder) →
    option_map (λ (g : Grant). g.txn) (cond b (Some grant) found) ≡ Some holder → HoldsAgainst (grant ∷ grants) txn place mode holder
first_conflict_by true grant grants txn place mode holder found conflict all rest is = subst (λ h. HoldsAgainst (grant ∷ grants) txn place mode h) (same_Some grant.txn holder is) (first_holds grant grants txn place mode conflict)
first_conflict_by false grant grants txn place mode holder found conflict all rest is = later_holds grant grants txn place mode holder all (rest is)

found_holds : (grants : List Grant) (txn : TxnId) (place : Place) (mode : Mode) (holder : TxnId) → are_compatible grants ≡ true → option_map (λ (g : Grant). g.txn) (find (is_in_conflict txn place mode) grants) ≡ Some holder → HoldsAgainst grants txn place mode holder
unfolding are_compatible
found_holds [] txn place mode holder all is = absurd cc
found_holds (x ∷ xs) txn place mode holder all is =
    first_conflict_by (is_in_conflict txn place mode x) x xs txn place mode holder (find (is_in_conflict txn place mode) xs) refl (and_parts _ _ all).0 (found_holds xs txn place mode holder (and_parts _ _ all).1) is

pub first_conflict-holds : (grants : List Grant) (txn : TxnId) (place : Place) (mode : Mode) (holder : TxnId) → are_compatible grants ≡ true → first_conflict grants txn place mode ≡ Some holder → HoldsAgainst grants txn place mode holder
unfolding first_conflict
first_conflict-holds grants txn place mode holder all is = found_holds grants txn place mode holder all is
