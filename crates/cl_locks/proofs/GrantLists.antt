-- What the words on lists of grants say of a list with one grant more or less.
use Rattle.std.proofs.Common.{Option, ◌≡◌, Bool, true, false, not, cond, List, [], ◌∷◌, ◌++◌, Some, None, option_map, find, filter, refl, sym, ap, ◌∙◌, subst, arith, inl, inr}
use Rattle.std.proofs.lemmas.Bool.{cases_Bool, and_parts, not_from_true, not_from_false}
use Rattle.std.proofs.lemmas.List.Elements.{filter-append}
use Rattle.cl_types.specs.declared.operations.Mode.{Mode}
use Rattle.cl_types.specs.declared.operations.TxnId.{TxnId}
use Rattle.cl_types.specs.Places.{Place, same_place}
use Rattle.cl_types.specs.Transactions.{same_txn}
use Rattle.cl_types.proofs.Transactions.{same_txn-true}
use Rattle.cl_locks.specs.Grants.{Grant, is_of, is_in_conflict, first_conflict, own_grant, mode_held, at_place, without_txn, without_lock}

-- ---- a search of a list with fewer items

-- what a filter keeps is found as before
pub find-filter : {A : Type 0} (p q : A → Bool) → ((x : A) → p x ≡ true → q x ≡ true) → (xs : List A) → find p (filter q xs) ≡ find p xs
find-filter p q keeps [] = refl
find-filter p q keeps (x ∷ xs) = grind (arith, keeps x, find-filter p q keeps xs)

-- what a filter takes out is not found
pub find-filtered : {A : Type 0} (p q : A → Bool) → ((x : A) → p x ≡ true → q x ≡ false) → (xs : List A) → find p (filter q xs) ≡ None
find-filtered p q drops [] = refl
find-filtered p q drops (x ∷ xs) = grind (arith, drops x, find-filtered p q drops xs)

-- two filters in either order
filter-filter : {A : Type 0} (p q : A → Bool) (xs : List A) → filter p (filter q xs) ≡ filter q (filter p xs)
filter-filter p q [] = refl
filter-filter p q (x ∷ xs) = grind (arith, filter-filter p q xs)

-- what a filter keeps it keeps
filter-again : {A : Type 0} (p : A → Bool) (xs : List A) → filter p (filter p xs) ≡ filter p xs
filter-again p [] = refl
filter-again p (x ∷ xs) = grind (arith, filter-again p xs)

-- an item that a filter takes out does not matter
pub filter-without : {A : Type 0} (p : A → Bool) (xs : List A) (x : A) (ys : List A) → p x ≡ false → filter p (xs ++ x ∷ ys) ≡ filter p (xs ++ ys)
filter-without p [] x ys out = grind arith
filter-without p (y ∷ xs) x ys out = grind (arith, filter-without p xs x ys out)

-- nothing found before stays so with fewer items
pub find-without : {A : Type 0} (p : A → Bool) (xs : List A) (x : A) (ys : List A) → find p (xs ++ x ∷ ys) ≡ None → find p (xs ++ ys) ≡ None
find-without p [] x ys none = grind arith
find-without p (y ∷ xs) x ys none = grind (arith, find-without p xs x ys)

-- where no item passes, a filter of the others keeps all
pub filter-not_found : {A : Type 0} (p : A → Bool) (xs : List A) → find p xs ≡ None → filter (λ x. not (p x)) xs ≡ xs
filter-not_found p [] none = refl
filter-not_found p (x ∷ xs) none = grind (arith, filter-not_found p xs)

-- what is found passes
pub find-passes : {A : Type 0} (p : A → Bool) (xs : List A) (x : A) → find p xs ≡ Some x → p x ≡ true
find-passes p [] x found = grind arith
find-passes p (y ∷ xs) x found = grind (arith, find-passes p xs x)

-- what a map takes to nothing was nothing
pub mapped_none : {A B : Type 0} (f : A → B) (o : Option A) → option_map f o ≡ None → o ≡ None
mapped_none f None none = refl
mapped_none f (Some x) none = absurd cc

-- ---- grants at a place, and without a transaction or a lock

pub at_place-append : (place : Place) (xs ys : List Grant) → at_place place (xs ++ ys) ≡ at_place place xs ++ at_place place ys
unfolding at_place
at_place-append place xs ys = filter-append (λ grant. same_place place grant.place) xs ys

pub at_place-none : (place : Place) → at_place place [] ≡ []
unfolding at_place
at_place-none place = refl

pub at_place-one : (place : Place) (grant : Grant) → same_place place grant.place ≡ true → at_place place (grant ∷ []) ≡ grant ∷ []
unfolding at_place
at_place-one place grant here = rw here

pub at_place-another : (place : Place) (grant : Grant) → same_place place grant.place ≡ false → at_place place (grant ∷ []) ≡ []
unfolding at_place
at_place-another place grant away = rw away

-- a grant at another place does not matter
pub at_place-without : (place : Place) (xs : List Grant) (grant : Grant) (ys : List Grant) → same_place place grant.place ≡ false → at_place place (xs ++ grant ∷ ys) ≡ at_place place (xs ++ ys)
unfolding at_place
at_place-without place xs grant ys away = filter-without (λ g. same_place place g.place) xs grant ys away

pub at_place-with : (place : Place) (xs : List Grant) (grant : Grant) (ys : List Grant) → same_place place grant.place ≡ true → at_place place (xs ++ grant ∷ ys) ≡ at_place place xs ++ grant ∷ at_place place ys
unfolding at_place
at_place-with place xs grant ys here = at_place-append place xs (grant ∷ ys) ∙ ap (λ gs. at_place place xs ++ gs) (rw here)

pub at_place-again : (place : Place) (grants : List Grant) → at_place place (at_place place grants) ≡ at_place place grants
unfolding at_place
at_place-again place grants = filter-again (λ g. same_place place g.place) grants

pub first_conflict-at_place : (grants : List Grant) (txn : TxnId) (place : Place) (mode : Mode) → first_conflict (at_place place grants) txn place mode ≡ first_conflict grants txn place mode
unfolding first_conflict at_place
first_conflict-at_place grants txn place mode =
    ap (λ found. option_map (λ (g : Grant). g.txn) found) (find-filter (is_in_conflict txn place mode) (λ g. same_place place g.place) (λ g conflict. (and_parts _ _ conflict).0) grants)

pub own_grant-at_place : (grants : List Grant) (txn : TxnId) (place : Place) → own_grant (at_place place grants) txn place ≡ own_grant grants txn place
unfolding own_grant at_place
own_grant-at_place grants txn place = find-filter (is_of txn place) (λ g. same_place place g.place) (λ g own. (and_parts _ _ own).1) grants

pub without_txn-at_place : (grants : List Grant) (txn : TxnId) (place : Place) → at_place place (without_txn txn grants) ≡ without_txn txn (at_place place grants)
unfolding without_txn at_place
without_txn-at_place grants txn place = filter-filter (λ g. same_place place g.place) (λ g. not (same_txn txn g.txn)) grants

pub without_lock-at_place : (grants : List Grant) (txn : TxnId) (here place : Place) → at_place place (without_lock txn here grants) ≡ without_lock txn here (at_place place grants)
unfolding without_lock at_place
without_lock-at_place grants txn here place = filter-filter (λ g. same_place place g.place) (λ g. not (is_of txn here g)) grants

-- a grant of the transaction does not matter where those are left out
pub without_txn-without : (txn : TxnId) (xs : List Grant) (grant : Grant) (ys : List Grant) → same_txn txn grant.txn ≡ true → without_txn txn (xs ++ grant ∷ ys) ≡ without_txn txn (xs ++ ys)
unfolding without_txn
without_txn-without txn xs grant ys own = filter-without (λ g. not (same_txn txn g.txn)) xs grant ys (not_from_true _ own)

-- ---- the modes after a release

pub same_txn-apart : (a b c : TxnId) → same_txn a b ≡ false → same_txn b c ≡ true → same_txn a c ≡ false
same_txn-apart a b c apart same = subst (λ x. same_txn a x ≡ false) (same_txn-true b c same) apart

pub mode_held-without_txn : (grants : List Grant) (txn t : TxnId) (place : Place) → mode_held (without_txn txn grants) t place ≡ cond (same_txn txn t) None (mode_held grants t place)
unfolding own_grant without_txn
mode_held-without_txn grants txn t place = elim (cases_Bool (same_txn txn t)) [
  | inl same ↦
      rw same
      (ap (λ found. option_map (λ (g : Grant). g.mode) found) (find-filtered (is_of t place) (λ g. not (same_txn txn g.txn)) (λ g own. not_from_true _ (subst (λ x. same_txn x g.txn ≡ true) (sym (same_txn-true txn t same)) (and_parts _ _ own).0)) grants))
  | inr apart ↦
      rw apart
      (ap (λ found. option_map (λ (g : Grant). g.mode) found) (find-filter (is_of t place) (λ g. not (same_txn txn g.txn)) (λ g own. not_from_false _ (same_txn-apart txn t g.txn apart (and_parts _ _ own).0)) grants))
]
