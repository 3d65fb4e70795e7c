-- What is left to undo of a transaction, and the undoing of a write.
use Rattle.std.specs.Prelude.{ℕ, Bool, ◌&&◌, not, List, [], ◌∷◌, Option, Some, None, reverse, filter}
use Rattle.std.specs.List.{list_any, count_by}
use Rattle.cl_types.specs.declared.operations.TxnId.{TxnId}
use Rattle.cl_log.specs.declared.records.Form.TheVariants.{Image, Amount}
use Rattle.cl_log.specs.declared.records.LogRec.{LogRec}
use Rattle.cl_log.specs.declared.records.LogRec.TheVariants.{Touch, Set, Add, Comp, Prepared, End, Decide}
use Rattle.cl_log.specs.LogEntry.{LogEntry}
use Rattle.cl_log.specs.Kind.{is_of, can_be_undone, undoes}

-- some Comp names the number as undone
unfoldable pub is_undone : List LogEntry → ℕ → Bool
is_undone entries number = list_any (λ entry. undoes number entry.content) entries

-- how many Comps name the number as undone
unfoldable pub times_undone : List LogEntry → ℕ → ℕ
times_undone entries number = count_by (λ entry. undoes number entry.content) entries

-- a Set or Add that no Comp of the log names as undone
abbrev pub is_left : List LogEntry → LogEntry → Bool
is_left entries entry = can_be_undone entry.content && not (is_undone entries entry.number)

-- the same, and it is of this transaction
abbrev pub is_left_of : List LogEntry → TxnId → LogEntry → Bool
is_left_of entries txn entry = is_of txn entry.content && is_left entries entry

-- the rest of a transaction: its Set and Add records that no Comp names as undone, last first
unfoldable pub rest_to_undo : List LogEntry → TxnId → List LogEntry
rest_to_undo entries txn = reverse (filter (is_left_of entries txn) entries)

-- the number of the first of these entries
abbrev pub first_number : List LogEntry → Option ℕ
first_number [] = None
first_number (entry ∷ entries) = Some entry.number

-- the undoing of the write of a number, where its record has the state number now: a Set writes the old image, an Add
-- subtracts the amount, and a record of another kind stays itself
abbrev pub undo_of : LogRec → ℕ → ℕ → LogRec
undo_of (Touch txn table key mode) number now = Touch txn table key mode
undo_of (Set txn table key before old new) number now = Comp txn table key now number (Image old)
undo_of (Add txn table key before amount) number now = Comp txn table key now number (Amount amount)
undo_of (Comp txn table key before undone form) number now = Comp txn table key before undone form
undo_of (Prepared txn) number now = Prepared txn
undo_of (End txn commit) number now = End txn commit
undo_of (Decide txn) number now = Decide txn
