-- What each call of a participant answers, and the state that it leaves.
use Rattle.std.specs.Prelude.{Bool, true, false, List, [], ◌∷◌, Option, Some, None}
use Rattle.cl_types.specs.declared.answers.Answer.{Answer}
use Rattle.cl_types.specs.declared.answers.Answer.TheVariants.{Done, Refused}
use Rattle.cl_types.specs.declared.answers.Reply.{Reply}
use Rattle.cl_types.specs.declared.operations.Op.{Op}
use Rattle.cl_types.specs.declared.operations.TxnId.{TxnId}
use Rattle.cl_types.specs.Places.{Place}
use Rattle.cl_types.specs.Plain.{plain_reply}
use Rattle.cl_log.specs.declared.records.LogRec.{LogRec}
use Rattle.cl_log.specs.declared.records.LogRec.TheVariants.{Set, Add, Prepared, End, Decide}
use Rattle.cl_log.specs.LogEntry.{LogEntry}
use Rattle.cl_log.specs.Rest.{rest_to_undo, undo_of}
use Rattle.cl_locks.specs.Grants.{first_conflict, mode_held}
use Rattle.cl_order.specs.Operations.{mode_of, record_of}
use Rattle.cl_part.specs.State.{State, after_record, after_optional}

-- ---- an operation

-- the transaction that refuses an operation: the first, in order of grant, that holds a lock in conflict
abbrev pub refusing : State → TxnId → Place → Op → Option TxnId
refusing state txn place op = first_conflict state.grants txn place (mode_of op)

-- refused by the first holder in conflict, where there is one, and else done with this reply
abbrev pub answer_by : Option TxnId → Reply → Answer
answer_by None reply = Done reply
answer_by (Some holder) reply = Refused holder

-- the answer: the plain operation's reply on the stored value, where no transaction refuses it
unfoldable pub answer_to : State → TxnId → Place → Op → Answer
answer_to state txn place op = answer_by (refusing state txn place op) (plain_reply op (state.stored place).1)

-- the record that the operation leaves, if any
abbrev pub record_left : State → TxnId → Place → Op → Option LogRec
record_left state txn place op = record_of txn place op (state.stored place) (mode_held state.grants txn place)

-- an operation that is refused leaves none
abbrev pub unless_refused : Option TxnId → Option LogRec → Option LogRec
unless_refused None content = content
unless_refused (Some holder) content = None

-- its record is taken, where there is one
unfoldable pub after_op : State → TxnId → Place → Op → State
after_op state txn place op = after_optional state (unless_refused (refusing state txn place op) (record_left state txn place op))

-- ---- the vote, the decision, and the end

-- a vote appends a Prepared
unfoldable pub after_prepare : State → TxnId → State
after_prepare state txn = after_record state (Prepared txn)

-- a decision appends a Decide
unfoldable pub after_decide : State → TxnId → State
after_decide state txn = after_record state (Decide txn)

-- an end appends an End, which frees the locks of its transaction
unfoldable pub after_end : State → TxnId → Bool → State
after_end state txn commit = after_record state (End txn commit)

-- ---- rollback

-- the place of a Set or an Add
abbrev pub place_of : LogRec → Place
place_of (Set txn table key before old new) = (table, key)
place_of (Add txn table key before amount) = (table, key)
place_of content = ([], [])

-- the compensation that undoes a write now
abbrev pub undo_now : State → LogEntry → LogRec
undo_now state entry = undo_of entry.content entry.number (state.stored (place_of entry.content)).0

-- the compensation of the first of these entries, where there is one
abbrev pub first_undone : State → List LogEntry → Option LogRec
first_undone state [] = None
first_undone state (first ∷ others) = Some (undo_now state first)

-- the first of what is left to undo of the transaction is undone
unfoldable pub after_undo : State → TxnId → State
after_undo state txn = after_optional state (first_undone state (rest_to_undo state.log txn))

-- whether the list has an entry
abbrev pub is_any : List LogEntry → Bool
is_any [] = false
is_any (entry ∷ entries) = true

-- whether something of the transaction is left to undo
unfoldable pub has_rest : List LogEntry → TxnId → Bool
has_rest log txn = is_any (rest_to_undo log txn)

-- the state after as many undo steps as these entries
abbrev pub undo_each : State → TxnId → List LogEntry → State
undo_each state txn [] = state
undo_each state txn (entry ∷ rest) = undo_each (after_undo state txn) txn rest

-- the state after the rollback of a transaction
unfoldable pub after_rollback : State → TxnId → State
after_rollback state txn = undo_each state txn (rest_to_undo state.log txn)

-- the state after its rollback and its End
unfoldable pub after_abort : State → TxnId → State
after_abort state txn = after_end (after_rollback state txn) txn false

-- ---- any call

-- the calls of a participant
pub data Call : Type 0 where
  ask_op : TxnId → Place → Op → Call
  prepare : TxnId → Call
  decide : TxnId → Call
  undo_one : TxnId → Call
  end : TxnId → Bool → Call

-- the record that a call appends, if any
abbrev pub record_of_call : State → Call → Option LogRec
record_of_call state (ask_op txn place op) = unless_refused (refusing state txn place op) (record_left state txn place op)
record_of_call state (prepare txn) = Some (Prepared txn)
record_of_call state (decide txn) = Some (Decide txn)
record_of_call state (undo_one txn) = first_undone state (rest_to_undo state.log txn)
record_of_call state (end txn commit) = Some (End txn commit)

-- the state after a call that does not run out of memory
abbrev pub after_call : State → Call → State
after_call state (ask_op txn place op) = after_op state txn place op
after_call state (prepare txn) = after_prepare state txn
after_call state (decide txn) = after_decide state txn
after_call state (undo_one txn) = after_undo state txn
after_call state (end txn commit) = after_end state txn commit
