-- Locks that are held, as a list in order of grant.
use Rattle.std.specs.Prelude.{Bool, true, not, ◌&&◌, List, [], ◌∷◌, ◌++◌, Option, Some, None, option_map, find, filter}
use Rattle.std.specs.List.{list_all}
use Rattle.cl_types.specs.declared.operations.Mode.{Mode}
use Rattle.cl_types.specs.declared.operations.Mode.TheVariants.{Shared, Exclusive}
use Rattle.cl_types.specs.declared.operations.TxnId.{TxnId}
use Rattle.cl_types.specs.Modes.{is_conflict}
use Rattle.cl_types.specs.Places.{Place, same_place}
use Rattle.cl_types.specs.Transactions.{same_txn}
use Rattle.cl_locks.specs.declared.answers.Granted.{Granted}
use Rattle.cl_locks.specs.declared.answers.Granted.TheVariants.{New, Stronger, Already}

-- a transaction holds a lock at a place, in a mode
pub record Grant : Type 0 where
  pub txn : TxnId
  pub place : Place
  pub mode : Mode

-- whether a grant is of the transaction at the place
abbrev pub is_of : TxnId → Place → Grant → Bool
is_of txn place grant = same_txn txn grant.txn && same_place place grant.place

-- whether a grant is another transaction's at the place, in a mode that conflicts
abbrev pub is_in_conflict : TxnId → Place → Mode → Grant → Bool
is_in_conflict txn place mode grant =
    same_place place grant.place && (not (same_txn txn grant.txn) && is_conflict (Some grant.mode) (Some mode))

-- the transaction of the first grant in conflict
unfoldable pub first_conflict : List Grant → TxnId → Place → Mode → Option TxnId
first_conflict grants txn place mode =
    option_map (λ grant. grant.txn) (find (is_in_conflict txn place mode) grants)

-- the first grant of the transaction at the place
unfoldable pub own_grant : List Grant → TxnId → Place → Option Grant
own_grant grants txn place = find (is_of txn place) grants

-- the mode that the transaction holds at the place
abbrev pub mode_held : List Grant → TxnId → Place → Option Mode
mode_held grants txn place = option_map (λ grant. grant.mode) (own_grant grants txn place)

-- the grants at the place, in order
unfoldable pub at_place : Place → List Grant → List Grant
at_place place grants = filter (λ grant. same_place place grant.place) grants

-- the grants of other transactions, in order
unfoldable pub without_txn : TxnId → List Grant → List Grant
without_txn txn grants = filter (λ grant. not (same_txn txn grant.txn)) grants

-- the grants but those of the transaction at the place, in order
unfoldable pub without_lock : TxnId → Place → List Grant → List Grant
without_lock txn place grants = filter (λ grant. not (is_of txn place grant)) grants

-- how a request is granted, by the mode that is held before
abbrev pub granted_as : Option Mode → Mode → Granted
granted_as None mode = New
granted_as (Some Shared) Shared = Already
granted_as (Some Shared) Exclusive = Stronger
granted_as (Some Exclusive) mode = Already

-- the grants with one that is granted so: a stronger one replaces the one before, and stands last
abbrev pub with_grant : Granted → List Grant → Grant → List Grant
with_grant New grants grant = grants ++ grant ∷ []
with_grant Stronger grants grant = without_lock grant.txn grant.place grants ++ grant ∷ []
with_grant Already grants grant = grants

-- the grants after a request is granted
unfoldable pub after_grant : List Grant → Grant → List Grant
after_grant grants grant =
    with_grant (granted_as (mode_held grants grant.txn grant.place) grant.mode) grants grant

-- whether two grants at one place may stand together: they are of two transactions, and do not conflict
abbrev pub is_compatible : Grant → Grant → Bool
is_compatible a b = not (same_txn a.txn b.txn) && not (is_conflict (Some a.mode) (Some b.mode))

-- whether each grant may stand together with each later one
unfoldable pub are_compatible : List Grant → Bool
are_compatible [] = true
are_compatible (grant ∷ grants) = list_all (is_compatible grant) grants && are_compatible grants
