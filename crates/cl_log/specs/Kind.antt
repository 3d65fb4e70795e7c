-- What a record says: whose it is, where it writes, and what it does to a transaction.
use Rattle.std.specs.Prelude.{ℕ, Bool, true, false, ◌==◌}
use Rattle.cl_types.specs.declared.operations.TxnId.{TxnId}
use Rattle.cl_types.specs.Places.{Place, same_place}
use Rattle.cl_types.specs.Transactions.{same_txn}
use Rattle.cl_log.specs.declared.records.LogRec.{LogRec}
use Rattle.cl_log.specs.declared.records.LogRec.TheVariants.{Touch, Set, Add, Comp, Prepared, End, Decide}

-- the transaction of a record
abbrev pub txn_of : LogRec → TxnId
txn_of (Touch txn table key mode) = txn
txn_of (Set txn table key before old new) = txn
txn_of (Add txn table key before amount) = txn
txn_of (Comp txn table key before undone form) = txn
txn_of (Prepared txn) = txn
txn_of (End txn commit) = txn
txn_of (Decide txn) = txn

-- a record of the transaction
abbrev pub is_of : TxnId → LogRec → Bool
is_of txn content = same_txn (txn_of content) txn

-- what opens a transaction: a Touch, Set, Add or Prepared
abbrev pub opens : LogRec → Bool
opens (Comp txn table key before undone form) = false
opens (End txn commit) = false
opens (Decide txn) = false
opens content = true

-- it is a Prepared
abbrev pub is_prepared : LogRec → Bool
is_prepared (Prepared txn) = true
is_prepared content = false

-- it is an End, with commit or without
abbrev pub is_end : LogRec → Bool
is_end (End txn commit) = true
is_end content = false

-- what can be undone: a Set or an Add
abbrev pub can_be_undone : LogRec → Bool
can_be_undone (Set txn table key before old new) = true
can_be_undone (Add txn table key before amount) = true
can_be_undone content = false

-- a Comp that names the number as undone
abbrev pub undoes : ℕ → LogRec → Bool
undoes number (Comp txn table key before undone form) = undone == number
undoes number content = false

-- what writes nothing and ends nothing: a Touch, Prepared or Decide
abbrev pub is_mark : LogRec → Bool
is_mark (Touch txn table key mode) = true
is_mark (Prepared txn) = true
is_mark (Decide txn) = true
is_mark content = false

-- a write at the place: a Set, Add or Comp there
abbrev pub writes : Place → LogRec → Bool
writes place (Set txn table key before old new) = same_place (table, key) place
writes place (Add txn table key before amount) = same_place (table, key) place
writes place (Comp txn table key before undone form) = same_place (table, key) place
writes place content = false

-- the state number that a write's record had before it, and 0 for other kinds
abbrev pub number_before : LogRec → ℕ
number_before (Set txn table key before old new) = before
number_before (Add txn table key before amount) = before
number_before (Comp txn table key before undone form) = before
number_before content = 0
