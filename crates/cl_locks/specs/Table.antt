-- What contracts see of a lock table.
use Rattle.std.specs.Prelude.{◌≡◌, List, Option}
use Rattle.cl_types.specs.declared.operations.Mode.{Mode}
use Rattle.cl_types.specs.declared.operations.TxnId.{TxnId}
use Rattle.cl_types.specs.Places.{Place}
use Rattle.cl_locks.specs.declared.locks.Locks.{Locks}
use Rattle.cl_locks.specs.Grants.{Grant, at_place, mode_held}
use Rattle.cl_locks.specs.Listed.{grants_on}

-- the grants at a place, in order of grant
unfoldable pub grants_at : Locks → Place → List Grant
grants_at locks place = grants_on locks.granted place

-- the mode that a transaction holds at a place
abbrev pub held : Locks → TxnId → Place → Option Mode
held locks txn place = mode_held (grants_at locks place) txn place

-- the table is a list of grants, in order of grant: at each place it has those of the list
abbrev pub IsTableOf : Locks → List Grant → Type 0
IsTableOf locks grants = (place : Place) → grants_at locks place ≡ at_place place grants
