-- The grants after a request is granted.
use Rattle.std.proofs.Common.{◌≡◌, true, false, not, cond, List, [], ◌∷◌, ◌++◌, Option, Some, None, option_map, refl, sym, ap, ◌∙◌, subst, append-nil, inl, inr}
use Rattle.std.specs.Option.{option_or}
use Rattle.std.proofs.lemmas.Bool.{cases_Bool, and_parts, and_from, and_left, not_from_true, not_from_false}
use Rattle.std.proofs.lemmas.List.Folds.{find-append}
use Rattle.cl_types.specs.declared.operations.Mode.{Mode}
use Rattle.cl_types.specs.declared.operations.Mode.TheVariants.{Shared, Exclusive}
use Rattle.cl_types.specs.declared.operations.TxnId.{TxnId}
use Rattle.cl_types.specs.Modes.{stronger}
use Rattle.cl_types.specs.Places.{Place, same_place}
use Rattle.cl_types.specs.Transactions.{same_txn}
use Rattle.cl_types.proofs.Places.{same_place-true, same_place-itself, same_place-symmetric}
use Rattle.cl_types.proofs.Transactions.{same_txn-true, same_txn-itself, same_txn-symmetric}
use Rattle.cl_locks.specs.declared.answers.Granted.{Granted}
use Rattle.cl_locks.specs.declared.answers.Granted.TheVariants.{New, Stronger, Already}
use Rattle.cl_locks.specs.Grants.{Grant, is_of, own_grant, mode_held, at_place, without_lock, granted_as, with_grant, after_grant}
use Rattle.cl_locks.proofs.GrantLists.{find-filter, find-filtered, mapped_none, filter-not_found, same_txn-apart, at_place-append, at_place-one, at_place-another, own_grant-at_place, without_lock-at_place}

option_or-none : {A : Type 0} (o : Option A) → option_or o None ≡ o
option_or-none None = refl
option_or-none (Some x) = refl

-- ---- the modes

pub mode_held-none : (txn : TxnId) (place : Place) → mode_held [] txn place ≡ None
unfolding own_grant
mode_held-none txn place = refl

mode_held-push : (grants : List Grant) (grant : Grant) (t : TxnId) (place : Place) → mode_held (grants ++ grant ∷ []) t place ≡ option_map (λ (g : Grant). g.mode) (option_or (own_grant grants t place) (own_grant (grant ∷ []) t place))
unfolding own_grant
mode_held-push grants grant t place = ap (λ found. option_map (λ (g : Grant). g.mode) found) (find-append (is_of t place) grants (grant ∷ []))

own_grant-one : (grant : Grant) (t : TxnId) (place : Place) → is_of t place grant ≡ true → own_grant (grant ∷ []) t place ≡ Some grant
unfolding own_grant
own_grant-one grant t place own = rw own

own_grant-another : (grant : Grant) (t : TxnId) (place : Place) → is_of t place grant ≡ false → own_grant (grant ∷ []) t place ≡ None
unfolding own_grant
own_grant-another grant t place other = rw other

-- the last grant of a transaction that has no other there
mode_held-push_own : (grants : List Grant) (grant : Grant) → own_grant grants grant.txn grant.place ≡ None → mode_held (grants ++ grant ∷ []) grant.txn grant.place ≡ Some grant.mode
mode_held-push_own grants grant none =
    mode_held-push grants grant grant.txn grant.place
    ∙ rw (none, own_grant-one grant grant.txn grant.place (and_from _ _ (same_txn-itself grant.txn) (same_place-itself grant.place)))

-- it is none of another transaction
mode_held-push_other : (grants : List Grant) (grant : Grant) (t : TxnId) → same_txn grant.txn t ≡ false → mode_held (grants ++ grant ∷ []) t grant.place ≡ mode_held grants t grant.place
mode_held-push_other grants grant t differ =
    mode_held-push grants grant t grant.place
    ∙ rw (own_grant-another grant t grant.place (and_left _ _ (same_txn-symmetric t grant.txn ∙ differ)))
    (ap (λ found. option_map (λ (g : Grant). g.mode) found) (option_or-none (own_grant grants t grant.place)))

own_grant-without_own : (grants : List Grant) (txn : TxnId) (place : Place) → own_grant (without_lock txn place grants) txn place ≡ None
unfolding own_grant without_lock
own_grant-without_own grants txn place = find-filtered (is_of txn place) (λ g. not (is_of txn place g)) (λ g own. not_from_true _ own) grants

mode_held-without_other : (grants : List Grant) (txn t : TxnId) (place : Place) → same_txn txn t ≡ false → mode_held (without_lock txn place grants) t place ≡ mode_held grants t place
unfolding own_grant without_lock
mode_held-without_other grants txn t place differ =
    ap (λ found. option_map (λ (g : Grant). g.mode) found)
    (find-filter (is_of t place) (λ g. not (is_of txn place g)) (λ g own. not_from_false _ (and_left _ _ (same_txn-apart txn t g.txn differ (and_parts _ _ own).0))) grants)

-- the modes after it, of the transaction and of another
record HeldAfter (grants after : List Grant) (grant : Grant) : Type 0 where
  own : mode_held after grant.txn grant.place ≡ stronger (mode_held grants grant.txn grant.place) (Some grant.mode)
  other : (t : TxnId) → same_txn grant.txn t ≡ false → mode_held after t grant.place ≡ mode_held grants t grant.place

held_by_mode : (grants : List Grant) (grant : Grant) (held : Option Mode) (mode : Mode) → own_grant grants grant.txn grant.place ≡ own_grant grants grant.txn grant.place → mode_held grants grant.txn grant.place ≡ held → grant.mode ≡ mode → (held ≡ None → own_grant grants grant.txn grant.place ≡ None) → HeldAfter grants (with_grant (granted_as held mode) grants grant) grant
held_by_mode grants grant None mode _ held asked none = record {
  own = mode_held-push_own grants grant (none refl) ∙ rw held;
  other = mode_held-push_other grants grant;
}
held_by_mode grants grant (Some Shared) Shared _ held asked none = record { own = rw (held, asked); other = λ t differ. refl }
held_by_mode grants grant (Some Shared) Exclusive _ held asked none = record {
  own = mode_held-push_own (without_lock grant.txn grant.place grants) grant (own_grant-without_own grants grant.txn grant.place) ∙ rw (held, asked);
  other = λ t differ. mode_held-push_other (without_lock grant.txn grant.place grants) grant t differ ∙ mode_held-without_other grants grant.txn t grant.place differ;
}
held_by_mode grants grant (Some Exclusive) mode _ held asked none = record { own = rw held; other = λ t differ. refl }

pub own_grant-none : (grants : List Grant) (txn : TxnId) (place : Place) → mode_held grants txn place ≡ None → own_grant grants txn place ≡ None
own_grant-none grants txn place none = mapped_none (λ (g : Grant). g.mode) (own_grant grants txn place) none

held_after : (grants : List Grant) (grant : Grant) → HeldAfter grants (after_grant grants grant) grant
unfolding after_grant
held_after grants grant = held_by_mode grants grant (mode_held grants grant.txn grant.place) grant.mode refl refl refl (own_grant-none grants grant.txn grant.place)

-- the mode of the transaction is as strong as it asked, and that of another stays
pub mode_held-after_grant : (grants : List Grant) (grant : Grant) (t : TxnId) → mode_held (after_grant grants grant) t grant.place ≡ cond (same_txn grant.txn t) (stronger (mode_held grants t grant.place) (Some grant.mode)) (mode_held grants t grant.place)
mode_held-after_grant grants grant t = elim (cases_Bool (same_txn grant.txn t)) [
  | inl same ↦ rw same (subst (λ x. mode_held (after_grant grants grant) x grant.place ≡ stronger (mode_held grants x grant.place) (Some grant.mode)) (same_txn-true grant.txn t same) (held_after grants grant).own)
  | inr differ ↦ rw differ ((held_after grants grant).other t differ)
]

-- ---- the grants at a place

at_place-with_grant : (granted : Granted) (grants : List Grant) (grant : Grant) (place : Place) → same_place place grant.place ≡ true → at_place place (with_grant granted grants grant) ≡ with_grant granted (at_place place grants) grant
at_place-with_grant New grants grant place here = at_place-append place grants (grant ∷ []) ∙ ap (λ gs. at_place place grants ++ gs) (at_place-one place grant here)
at_place-with_grant Stronger grants grant place here =
    at_place-append place (without_lock grant.txn grant.place grants) (grant ∷ [])
    ∙ rw (without_lock-at_place grants grant.txn grant.place place, at_place-one place grant here)
at_place-with_grant Already grants grant place here = refl

-- a lock elsewhere does not matter
without_lock-elsewhere : (grants : List Grant) (txn : TxnId) (here place : Place) → same_place place here ≡ false → at_place place (without_lock txn here grants) ≡ at_place place grants
unfolding at_place without_lock
without_lock-elsewhere grants txn here place away =
    without_lock-at_place grants txn here place
    ∙ filter-not_found (is_of txn here) (at_place place grants)
    (find-filtered (is_of txn here) (λ g. same_place place g.place) (λ g own. subst (λ p. same_place place p ≡ false) (same_place-true here g.place (and_parts _ _ own).1) away) grants)

at_place-push_elsewhere : (grants : List Grant) (grant : Grant) (place : Place) → same_place place grant.place ≡ false → at_place place (grants ++ grant ∷ []) ≡ at_place place grants
at_place-push_elsewhere grants grant place away =
    at_place-append place grants (grant ∷ []) ∙ ap (λ gs. at_place place grants ++ gs) (at_place-another place grant away) ∙ append-nil (at_place place grants)

at_place-with_grant_elsewhere : (granted : Granted) (grants : List Grant) (grant : Grant) (place : Place) → same_place place grant.place ≡ false → at_place place (with_grant granted grants grant) ≡ at_place place grants
at_place-with_grant_elsewhere New grants grant place away = at_place-push_elsewhere grants grant place away
at_place-with_grant_elsewhere Stronger grants grant place away =
    at_place-push_elsewhere (without_lock grant.txn grant.place grants) grant place away ∙ without_lock-elsewhere grants grant.txn grant.place place away
at_place-with_grant_elsewhere Already grants grant place away = refl

pub mode_held-at_place : (grants : List Grant) (txn : TxnId) (place : Place) → mode_held (at_place place grants) txn place ≡ mode_held grants txn place
mode_held-at_place grants txn place = ap (λ found. option_map (λ (g : Grant). g.mode) found) (own_grant-at_place grants txn place)

at_place-after_grant_here : (grants : List Grant) (grant : Grant) → at_place grant.place (after_grant grants grant) ≡ after_grant (at_place grant.place grants) grant
unfolding after_grant
at_place-after_grant_here grants grant =
    at_place-with_grant (granted_as (mode_held grants grant.txn grant.place) grant.mode) grants grant grant.place (same_place-itself grant.place)
    ∙ ap (λ held. with_grant (granted_as held grant.mode) (at_place grant.place grants) grant) (sym (mode_held-at_place grants grant.txn grant.place))

at_place-after_grant_elsewhere : (grants : List Grant) (grant : Grant) (place : Place) → same_place place grant.place ≡ false → at_place place (after_grant grants grant) ≡ at_place place grants
unfolding after_grant
at_place-after_grant_elsewhere grants grant place away = at_place-with_grant_elsewhere (granted_as (mode_held grants grant.txn grant.place) grant.mode) grants grant place away

-- a granted request changes the grants at its place, as it changes the whole list
pub at_place-after_grant : (grants : List Grant) (grant : Grant) (place : Place) → at_place place (after_grant grants grant) ≡ cond (same_place grant.place place) (after_grant (at_place place grants) grant) (at_place place grants)
at_place-after_grant grants grant place = elim (cases_Bool (same_place grant.place place)) [
  | inl same ↦ rw same (subst (λ p. at_place p (after_grant grants grant) ≡ after_grant (at_place p grants) grant) (same_place-true grant.place place same) (at_place-after_grant_here grants grant))
  | inr differ ↦ rw differ (at_place-after_grant_elsewhere grants grant place (same_place-symmetric place grant.place ∙ differ))
]
