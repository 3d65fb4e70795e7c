-- Whether a lock is free for a transaction.
use Rattle.std.proofs.Common.{◌≡◌, ◌≢◌, Bool, true, false, ◌&&◌, not, List, [], ◌∷◌, Option, Some, None, option_map, find, refl, sym, ap, ◌∙◌, subst, inl, inr}
use Rattle.std.proofs.lemmas.Bool.{cases_Bool, cond-true, cond-false, and_parts, false≢true}
use Rattle.cl_types.specs.declared.operations.Mode.{Mode}
use Rattle.cl_types.specs.declared.operations.TxnId.{TxnId}
use Rattle.cl_types.specs.Modes.{is_conflict}
use Rattle.cl_types.specs.Places.{Place, same_place}
use Rattle.cl_types.specs.Transactions.{same_txn}
use Rattle.cl_types.proofs.Places.{same_place-true, same_place-itself}
use Rattle.cl_types.proofs.Transactions.{same_txn-true, same_txn-itself, same_txn-false}
use Rattle.cl_locks.specs.declared.locks.Locks.{Locks}
use Rattle.cl_locks.specs.Grants.{Grant, is_of, is_in_conflict, own_grant, first_conflict}
use Rattle.cl_locks.specs.Table.{grants_at, held}
use Rattle.cl_locks.proofs.GrantLists.{mapped_none}
use Rattle.cl_locks.proofs.TableLaws.{first_conflict-free}
use Rattle.cl_vnode.specs.Taking.{IsLockFree}

-- where none of the grants passes, neither the first does nor one of the others
none_passes : (p : Grant → Bool) (x : Grant) (xs : List Grant) → find p (x ∷ xs) ≡ None → (p x ≡ false) × (find p xs ≡ None)
none_passes p x xs none = elim (cases_Bool (p x)) [
  | inl passes ↦ (let some : ◌≡◌ {A = Option Grant} (Some x) None = sym (cond-true _ _ _ passes) ∙ none in absurd cc)
  | inr fails ↦ (fails, sym (cond-false _ _ _ fails) ∙ none)
]

-- another transaction's grant at the place, which is not in conflict, does not conflict
grant_free : (txn other : TxnId) (place : Place) (mode : Mode) (x : Grant) → is_in_conflict txn place mode x ≡ false → same_txn txn other ≡ false →
    is_of other place x ≡ true →
    is_conflict (Some x.mode) (Some mode) ≡ false
grant_free txn other place mode x none apart own =
    let parts = and_parts _ _ own in
    let differ : same_txn txn x.txn ≡ false = subst (λ t. same_txn txn t ≡ false) (same_txn-true other x.txn parts.0) apart in
    ap (λ b. not b && is_conflict (Some x.mode) (Some mode)) (sym differ)
    ∙ ap (λ b. b && (not (same_txn txn x.txn) && is_conflict (Some x.mode) (Some mode))) (sym parts.1)
    ∙ none

-- so it is for each grant
grants_free : (txn other : TxnId) (place : Place) (mode : Mode) → same_txn txn other ≡ false → (grants : List Grant) →
    find (is_in_conflict txn place mode) grants ≡ None →
    is_conflict (option_map (λ (grant : Grant). grant.mode) (find (is_of other place) grants)) (Some mode) ≡ false
grants_free txn other place mode apart [] none = refl
grants_free txn other place mode apart (x ∷ xs) none =
    let parts = none_passes (is_in_conflict txn place mode) x xs none in
    elim (cases_Bool (is_of other place x)) [
      | inl own ↦ ap (λ (found : Option Grant). is_conflict (option_map (λ (grant : Grant). grant.mode) found) (Some mode)) (cond-true _ _ _ own)
          ∙ grant_free txn other place mode x parts.0 apart own
      | inr foreign ↦ ap (λ (found : Option Grant). is_conflict (option_map (λ (grant : Grant). grant.mode) found) (Some mode)) (cond-false _ _ _ foreign)
          ∙ grants_free txn other place mode apart xs parts.1
    ]

no_mode : (held : Option Mode) → is_conflict held None ≡ false
no_mode None = refl
no_mode (Some mode) = refl

-- where no grant is in conflict, the lock is free
pub lock_free : (locks : Locks) (txn : TxnId) (own : Place) (mode : Mode) → first_conflict (grants_at locks own) txn own mode ≡ None →
    IsLockFree (held locks) txn own mode
unfolding first_conflict own_grant
lock_free locks txn own mode none other place apart = elim (cases_Bool (same_place own place)) [
  | inl here ↦ ap (is_conflict (held locks other place)) (cond-true _ _ _ here)
      ∙ ap (λ p. is_conflict (held locks other p) (Some mode)) (sym (same_place-true own place here))
      ∙ grants_free txn other own mode (same_txn-false txn other (λ same. apart (sym same))) (grants_at locks own)
      (mapped_none (λ (grant : Grant). grant.txn) _ none)
  | inr away ↦ ap (is_conflict (held locks other place)) (cond-false _ _ _ away) ∙ no_mode (held locks other place)
]

differs : (txn other : TxnId) → same_txn txn other ≡ false → other ≢ txn
differs txn other apart same = false≢true (sym apart ∙ subst (λ t. same_txn txn t ≡ true) (sym same) (same_txn-itself txn))

-- and the other way round
pub free_lock : (locks : Locks) (txn : TxnId) (own : Place) (mode : Mode) → IsLockFree (held locks) txn own mode →
    first_conflict (grants_at locks own) txn own mode ≡ None
free_lock locks txn own mode free =
    first_conflict-free locks txn own mode
    (λ other apart. ap (is_conflict (held locks other own)) (sym (cond-true _ _ _ (same_place-itself own))) ∙ free other own (differs txn other apart))
