-- What crates above need of a lock table.
use Rattle.std.proofs.Common.{◌≡◌, true, false, cond, List, [], Some, None, sym, ap, ◌∙◌}
use Rattle.cl_types.specs.declared.operations.Mode.{Mode}
use Rattle.cl_types.specs.declared.operations.TxnId.{TxnId}
use Rattle.cl_types.specs.Modes.{is_conflict}
use Rattle.cl_types.specs.Places.{Place, same_place}
use Rattle.cl_types.specs.Transactions.{same_txn}
use Rattle.cl_lists.specs.declared.slots.Side.TheVariants.{X}
use Rattle.cl_lists.specs.Arena.{items_on}
use Rattle.cl_locks.specs.declared.locks.Locks.{Locks}
use Rattle.cl_locks.specs.Grants.{Grant, first_conflict, mode_held, at_place, without_txn, after_grant, are_compatible}
use Rattle.cl_locks.specs.Listed.{place_list, grants_on}
use Rattle.cl_locks.specs.Table.{grants_at, held, IsTableOf}
use Rattle.cl_locks.proofs.GrantLists.{at_place-none, at_place-again, first_conflict-at_place, without_txn-at_place}
use Rattle.cl_locks.proofs.Compatible.{first_conflict-none, first_conflict-holds, is_conflict-held}
use Rattle.cl_locks.proofs.OneList.{all_grants, at_place-all_grants}
use Rattle.cl_locks.proofs.Granting.{at_place-after_grant, mode_held-at_place, mode_held-none}

-- ---- the whole list

pub IsTableOf-all_grants : (locks : Locks) → (grants : List Grant) × IsTableOf locks grants
unfolding grants_at
IsTableOf-all_grants locks = (all_grants locks.granted, at_place-all_grants locks.granted locks.listed)

pub IsTableOf-empty : (locks : Locks) → ((place : Place) → grants_at locks place ≡ []) → IsTableOf locks []
IsTableOf-empty locks empty = λ place. empty place ∙ sym (at_place-none place)

pub first_conflict-table : (locks : Locks) (grants : List Grant) (txn : TxnId) (place : Place) (mode : Mode) → IsTableOf locks grants → first_conflict (grants_at locks place) txn place mode ≡ first_conflict grants txn place mode
first_conflict-table locks grants txn place mode table = ap (λ (gs : List Grant). first_conflict gs txn place mode) (table place) ∙ first_conflict-at_place grants txn place mode

pub held-table : (locks : Locks) (grants : List Grant) (txn : TxnId) (place : Place) → IsTableOf locks grants → held locks txn place ≡ mode_held grants txn place
held-table locks grants txn place table = ap (λ (gs : List Grant). mode_held gs txn place) (table place) ∙ mode_held-at_place grants txn place

pub IsTableOf-granted : (old new : Locks) (grants : List Grant) (grant : Grant) → IsTableOf old grants → ((place : Place) → grants_at new place ≡ cond (same_place grant.place place) (after_grant (grants_at old place) grant) (grants_at old place)) → IsTableOf new (after_grant grants grant)
IsTableOf-granted old new grants grant table gives = λ place.
    gives place
    ∙ ap (λ (gs : List Grant). cond (same_place grant.place place) (after_grant gs grant) gs) (table place)
    ∙ sym (at_place-after_grant grants grant place)

pub IsTableOf-released : (old new : Locks) (grants : List Grant) (txn : TxnId) → IsTableOf old grants → ((place : Place) → grants_at new place ≡ without_txn txn (grants_at old place)) → IsTableOf new (without_txn txn grants)
IsTableOf-released old new grants txn table gives = λ place.
    gives place ∙ ap (without_txn txn) (table place) ∙ sym (without_txn-at_place grants txn place)

-- a refused request leaves it
pub IsTableOf-kept : (old new : Locks) (grants : List Grant) → IsTableOf old grants → ((place : Place) → grants_at new place ≡ grants_at old place) → IsTableOf new grants
IsTableOf-kept old new grants table same = λ place. same place ∙ table place

-- ---- each place

pub at_place-grants_at : (locks : Locks) (place : Place) → at_place place (grants_at locks place) ≡ grants_at locks place
unfolding grants_at grants_on
at_place-grants_at locks place = at_place-again place (items_on locks.granted X (place_list place.1))

pub are_compatible-grants_at : (locks : Locks) (place : Place) → are_compatible (grants_at locks place) ≡ true
unfolding grants_at
are_compatible-grants_at locks place = locks.compatible place

pub held-compatible : (locks : Locks) (place : Place) (a b : TxnId) → same_txn a b ≡ false → is_conflict (held locks a place) (held locks b place) ≡ false
held-compatible locks place a b differ = is_conflict-held (grants_at locks place) a b place (are_compatible-grants_at locks place) differ

pub first_conflict-held : (locks : Locks) (txn holder : TxnId) (place : Place) (mode : Mode) → first_conflict (grants_at locks place) txn place mode ≡ Some holder → (same_txn txn holder ≡ false) × (is_conflict (held locks holder place) (Some mode) ≡ true)
first_conflict-held locks txn holder place mode is =
    let holds = first_conflict-holds (grants_at locks place) txn place mode holder (are_compatible-grants_at locks place) is in
    (holds.another, holds.conflict)

-- a request is granted where no other transaction holds a mode that conflicts
pub first_conflict-free : (locks : Locks) (txn : TxnId) (place : Place) (mode : Mode) → ((other : TxnId) → same_txn txn other ≡ false → is_conflict (held locks other place) (Some mode) ≡ false) → first_conflict (grants_at locks place) txn place mode ≡ None
first_conflict-free locks txn place mode apart = first_conflict-none (grants_at locks place) txn place mode (are_compatible-grants_at locks place) apart

-- in a new table nothing is held
pub held-new : (locks : Locks) → ((place : Place) → grants_at locks place ≡ []) → (txn : TxnId) (place : Place) → held locks txn place ≡ None
held-new locks empty txn place = ap (λ (gs : List Grant). mode_held gs txn place) (empty place) ∙ mode_held-none txn place
