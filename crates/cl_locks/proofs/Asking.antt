-- The grants and the modes after a request is granted, at every place.
use Rattle.std.proofs.Common.{◌≡◌, Bool, true, false, ◌&&◌, cond, List, [], ◌∷◌, ◌++◌, Option, Some, None, is_some, option_map, refl, sym, ap, ◌∙◌, subst, inl, inr}
use Rattle.std.proofs.lemmas.Bool.{cases_Bool, and_parts, and_right, false≢true}
use Rattle.cl_types.specs.declared.operations.Mode.{Mode}
use Rattle.cl_types.specs.declared.operations.TxnId.{TxnId}
use Rattle.cl_types.specs.Modes.{stronger}
use Rattle.cl_types.specs.Places.{Place, same_place}
use Rattle.cl_types.specs.Transactions.{same_txn}
use Rattle.cl_types.proofs.Places.{same_place-true, same_place-itself}
use Rattle.cl_types.proofs.Transactions.{same_txn-true}
use Rattle.cl_locks.specs.declared.answers.Granted.{Granted}
use Rattle.cl_locks.specs.declared.answers.Granted.TheVariants.{New}
use Rattle.cl_locks.specs.Grants.{Grant, is_of, first_conflict, own_grant, mode_held, granted_as, with_grant, after_grant}
use Rattle.cl_locks.proofs.GrantLists.{find-passes}
use Rattle.cl_locks.proofs.Granting.{mode_held-after_grant}

abbrev pub grant_of : TxnId → Place → Mode → Grant
grant_of txn place mode = record { txn = txn; place = place; mode = mode }

-- the grants of each place after a request is granted
abbrev pub IsGranted : (before after : Place → List Grant) → Grant → Type 0
IsGranted before after grant = (place : Place) → after place ≡ cond (same_place grant.place place) (after_grant (before place) grant) (before place)

own_grant-passes : (grants : List Grant) (txn : TxnId) (place : Place) (grant : Grant) → own_grant grants txn place ≡ Some grant → is_of txn place grant ≡ true
unfolding own_grant
own_grant-passes grants txn place grant is = find-passes (is_of txn place) grants grant is

-- the grant of a transaction at a place is of that transaction and place
pub own_grant-txn : (grants : List Grant) (txn : TxnId) (place : Place) (grant : Grant) → own_grant grants txn place ≡ Some grant → txn ≡ grant.txn
own_grant-txn grants txn place grant is = same_txn-true txn grant.txn (and_parts _ _ (own_grant-passes grants txn place grant is)).0

pub own_grant-place : (grants : List Grant) (txn : TxnId) (place : Place) (grant : Grant) → own_grant grants txn place ≡ Some grant → place ≡ grant.place
own_grant-place grants txn place grant is = same_place-true place grant.place (and_parts _ _ (own_grant-passes grants txn place grant is)).1

-- what is asked of a place holds of the place of the grant
pub free-own : (before : Place → List Grant) (txn : TxnId) (place : Place) (mode : Mode) (grant : Grant) → own_grant (before place) txn place ≡ Some grant → first_conflict (before place) txn place mode ≡ None → first_conflict (before grant.place) grant.txn grant.place mode ≡ None
free-own before txn place mode grant is free =
    subst (λ t. first_conflict (before grant.place) t grant.place mode ≡ None) (own_grant-txn (before place) txn place grant is)
    (subst (λ p. first_conflict (before p) txn p mode ≡ None) (own_grant-place (before place) txn place grant is) free)

after_grant-by : (grants : List Grant) (grant : Grant) (granted : Granted) → granted ≡ granted_as (mode_held grants grant.txn grant.place) grant.mode → with_grant granted grants grant ≡ after_grant grants grant
unfolding after_grant
after_grant-by grants grant granted is = ap (λ (g : Granted). with_grant g grants grant) is

-- a request that is granted so at its place, and changes no other
IsGranted-so : (before after : Place → List Grant) (grant : Grant) (granted : Granted) → granted ≡ granted_as (mode_held (before grant.place) grant.txn grant.place) grant.mode → ((place : Place) → after place ≡ cond (same_place grant.place place) (with_grant granted (before place) grant) (before place)) → IsGranted before after grant
IsGranted-so before after grant granted is gives = λ place. gives place ∙ elim (cases_Bool (same_place grant.place place)) [
  | inl same ↦
      rw same (subst (λ p. with_grant granted (before p) grant ≡ after_grant (before p) grant) (same_place-true grant.place place same) (after_grant-by (before grant.place) grant granted is))
  | inr differ ↦ rw differ
]

-- of a transaction that holds no lock there
pub IsGranted-new : (before after : Place → List Grant) (grant : Grant) → own_grant (before grant.place) grant.txn grant.place ≡ None → ((place : Place) → after place ≡ cond (same_place grant.place place) (before place ++ grant ∷ []) (before place)) → IsGranted before after grant
IsGranted-new before after grant none gives = IsGranted-so before after grant New (rw none) gives

-- of one that holds a lock there
pub IsGranted-again : (before after : Place → List Grant) (txn : TxnId) (place : Place) (mode : Mode) (granted : Granted) (item : Option Grant) → is_some item ≡ true → item ≡ own_grant (before place) txn place →
    ((grant : Grant) → item ≡ Some grant → granted ≡ granted_as (Some grant.mode) mode) →
    ((grant : Grant) (other : Place) → item ≡ Some grant → after other ≡ cond (same_place grant.place other) (with_grant granted (before other) (grant_of grant.txn grant.place mode)) (before other)) →
    IsGranted before after (grant_of txn place mode)
IsGranted-again before after txn place mode granted None some is gave gives = absurd (false≢true some)
IsGranted-again before after txn place mode granted (Some grant) some is gave gives =
    IsGranted-so before after (grant_of txn place mode) granted (gave grant refl ∙ ap (λ found. granted_as (option_map (λ (g : Grant). g.mode) found) mode) is)
    (subst (λ t. (other : Place) → after other ≡ cond (same_place place other) (with_grant granted (before other) (grant_of t place mode)) (before other)) (sym (own_grant-txn (before place) txn place grant (sym is)))
    (subst (λ p. (other : Place) → after other ≡ cond (same_place p other) (with_grant granted (before other) (grant_of grant.txn p mode)) (before other)) (sym (own_grant-place (before place) txn place grant (sym is)))
    (λ other. gives grant other refl)))

-- ---- the modes

held_here : (before after : List Grant) (grant : Grant) (t : TxnId) → after ≡ after_grant before grant → (b : Bool) → b ≡ same_txn grant.txn t → mode_held after t grant.place ≡ cond (b && true) (stronger (mode_held before t grant.place) (Some grant.mode)) (mode_held before t grant.place)
held_here before after grant t is true own = ap (λ (gs : List Grant). mode_held gs t grant.place) is ∙ mode_held-after_grant before grant t ∙ rw (← own)
held_here before after grant t is false own = ap (λ (gs : List Grant). mode_held gs t grant.place) is ∙ mode_held-after_grant before grant t ∙ rw (← own)

-- the mode of the transaction at the place is as strong as it asked, and every other mode stays
pub modes-granted : (before after : Place → List Grant) (grant : Grant) → IsGranted before after grant → (t : TxnId) (place : Place) → mode_held (after place) t place ≡ cond (same_txn grant.txn t && same_place grant.place place) (stronger (mode_held (before place) t place) (Some grant.mode)) (mode_held (before place) t place)
modes-granted before after grant granted t place = elim (cases_Bool (same_place grant.place place)) [
  | inl same ↦
      rw same
      (subst (λ p. mode_held (after p) t p ≡ cond (same_txn grant.txn t && true) (stronger (mode_held (before p) t p) (Some grant.mode)) (mode_held (before p) t p)) (same_place-true grant.place place same)
      (held_here (before grant.place) (after grant.place) grant t (granted grant.place ∙ rw (same_place-itself grant.place)) (same_txn grant.txn t) refl))
  | inr differ ↦
      rw (and_right (same_txn grant.txn t) (same_place grant.place place) differ)
      (ap (λ (gs : List Grant). mode_held gs t place) (granted place ∙ rw differ))
]
