-- The laws of a lock table.
use Rattle.std.specs.Prelude.{◌≡◌, ◌≤◌, true, false, if◌then◌else◌, List, [], ◌++◌, Some, None, IsTrue}
use Rattle.cl_types.specs.declared.operations.Mode.{Mode}
use Rattle.cl_types.specs.declared.operations.TxnId.{TxnId}
use Rattle.cl_types.specs.Modes.{is_conflict, strength}
use Rattle.cl_types.specs.Places.{Place, same_place}
use Rattle.cl_types.specs.Transactions.{same_txn}
use Rattle.cl_locks.specs.declared.locks.Locks.{Locks}
use Rattle.cl_locks.specs.Grants.{Grant, first_conflict, mode_held, at_place, without_txn, after_grant, are_compatible}
use Rattle.cl_locks.specs.Table.{grants_at, held, IsTableOf}

-- ---- the grants of all places are one list in order of grant

-- every table is a list of grants
abbrev pub EveryTableIsList : Type 0
EveryTableIsList = (locks : Locks) → (grants : List Grant) × IsTableOf locks grants

-- a table with no lock is the empty list
abbrev pub EmptyIsTable : Type 0
EmptyIsTable = (locks : Locks) → ((place : Place) → grants_at locks place ≡ []) → IsTableOf locks []

-- the first grant in conflict at a place is the first of the whole list
abbrev pub OneFirstConflict : Type 0
OneFirstConflict = (locks : Locks) (grants : List Grant) (txn : TxnId) (place : Place) (mode : Mode) → IsTableOf locks grants →
    first_conflict (grants_at locks place) txn place mode ≡ first_conflict grants txn place mode

-- the mode that is held is that of the whole list
abbrev pub OneModeHeld : Type 0
OneModeHeld = (locks : Locks) (grants : List Grant) (txn : TxnId) (place : Place) → IsTableOf locks grants →
    held locks txn place ≡ mode_held grants txn place

-- what a granted request does at each place, it does to the whole list
abbrev pub GrantMakesTable : Type 0
GrantMakesTable = (old new : Locks) (grants : List Grant) (grant : Grant) → IsTableOf old grants →
    ((place : Place) → grants_at new place ≡
    (if same_place grant.place place then after_grant (grants_at old place) grant else grants_at old place)) →
    IsTableOf new (after_grant grants grant)

-- and so does a release
abbrev pub ReleaseMakesTable : Type 0
ReleaseMakesTable = (old new : Locks) (grants : List Grant) (txn : TxnId) → IsTableOf old grants →
    ((place : Place) → grants_at new place ≡ without_txn txn (grants_at old place)) →
    IsTableOf new (without_txn txn grants)

-- ---- at each place

-- the grants at a place are of that place
abbrev pub GrantsArePlaced : Type 0
GrantsArePlaced = (locks : Locks) (place : Place) → at_place place (grants_at locks place) ≡ grants_at locks place

-- no transaction has two, and no two are in conflict
abbrev pub GrantsAreCompatible : Type 0
GrantsAreCompatible = (locks : Locks) (place : Place) → IsTrue (are_compatible (grants_at locks place))

-- so the modes of two transactions do not conflict
abbrev pub ModesAreCompatible : Type 0
ModesAreCompatible = (locks : Locks) (place : Place) (a b : TxnId) → same_txn a b ≡ false →
    is_conflict (held locks a place) (held locks b place) ≡ false

-- the first holder in conflict is another transaction, which holds a mode that conflicts
abbrev pub FirstConflictHolds : Type 0
FirstConflictHolds = (locks : Locks) (txn holder : TxnId) (place : Place) (mode : Mode) →
    first_conflict (grants_at locks place) txn place mode ≡ Some holder →
    (same_txn txn holder ≡ false) × (is_conflict (held locks holder place) (Some mode) ≡ true)

-- and there is none where no other transaction holds such a mode
abbrev pub NoConflictIsFree : Type 0
NoConflictIsFree = (locks : Locks) (txn : TxnId) (place : Place) (mode : Mode) →
    ((other : TxnId) → same_txn txn other ≡ false → is_conflict (held locks other place) (Some mode) ≡ false) →
    first_conflict (grants_at locks place) txn place mode ≡ None

-- ---- of any list of grants

-- a beginning of compatible grants is compatible
abbrev pub BeginningIsCompatible : Type 0
BeginningIsCompatible = (before after : List Grant) → IsTrue (are_compatible (before ++ after)) → IsTrue (are_compatible before)

-- where a mode meets no conflict, no weaker mode meets one
abbrev pub FreeForStrongerIsFree : Type 0
FreeForStrongerIsFree = (grants : List Grant) (txn : TxnId) (place : Place) (weak strong : Mode) → strength (Some weak) ≤ strength (Some strong) →
    first_conflict grants txn place strong ≡ None → first_conflict grants txn place weak ≡ None
