-- The steps of a ledger: what each needs, and what it makes of the ledger.
use Rattle.std.specs.Prelude.{◌≡◌, ◌≢◌, ℕ, ◌+◌, Bool, true, false, ◌==◌, if◌then◌else◌, List, [], ◌∷◌, ◌++◌, length, Option, Some, None, fold}
use Rattle.cl_types.specs.declared.operations.Op.{Op}
use Rattle.cl_types.specs.declared.operations.TxnId.{TxnId}
use Rattle.cl_types.specs.declared.answers.Outcome.TheVariants.{Done}
use Rattle.cl_types.specs.Modes.{is_conflict}
use Rattle.cl_types.specs.Places.{Place}
use Rattle.cl_types.specs.Plain.{plain_reply}
use Rattle.cl_types.specs.Transactions.{same_txn}
use Rattle.cl_log.specs.declared.records.LogRec.{LogRec}
use Rattle.cl_log.specs.declared.records.LogRec.TheVariants.{Prepared, End, Decide}
use Rattle.cl_log.specs.LogEntry.{LogEntry, EachAfter}
use Rattle.cl_log.specs.Kind.{txn_of, is_of}
use Rattle.cl_log.specs.Lawful.{UndoesFirst, LosesEndsOfMembers}
use Rattle.cl_log.specs.Open.{has_ended, is_among}
use Rattle.cl_log.specs.Rest.{rest_to_undo}
use Rattle.cl_log.specs.Store.{CarriesNumberBefore}
use Rattle.cl_serial.specs.PlainMap.{Operation}
use Rattle.cl_order.specs.Operations.{mode_of, is_held, record_of}
use Rattle.cl_order.specs.Ledger.{Ledger, log_at, stored_at, lock_at, IsWhole}

-- a change of a ledger
pub data Step : Type 0 where
  -- a transaction carries out an operation at a place
  carry_out : TxnId → Place → Op → Step
  -- a Prepared of a transaction is appended to the log of a virtual node
  prepare : ℕ → TxnId → Step
  -- a Decide is appended
  decide : ℕ → TxnId → Step
  -- a transaction joins the history
  join : TxnId → Step
  -- a compensation is appended
  undo : ℕ → LogRec → Step
  -- an End is appended, with commit or without
  finish : ℕ → TxnId → Bool → Step
  -- the log of a virtual node loses its last records, and these are left
  cut : ℕ → List LogEntry → Step

-- the log with one more record, which has the next number
abbrev pub log_with : List LogEntry → LogRec → List LogEntry
log_with log content = log ++ record { number = length log + 1; content = content } ∷ []

-- the log with one more record, where there is one
abbrev pub log_with_optional : List LogEntry → Option LogRec → List LogEntry
log_with_optional log None = log
log_with_optional log (Some content) = log_with log content

-- the logs, with this one at the virtual node
abbrev pub logs_with : (ℕ → List LogEntry) → ℕ → List LogEntry → ℕ → List LogEntry
logs_with logs v log u = if u == v then log else logs u

-- the operations of each transaction, with one more of this one
abbrev pub done_with : (TxnId → List Operation) → TxnId → Operation → TxnId → List Operation
done_with done txn operation other = if same_txn other txn then done other ++ operation ∷ [] else done other

-- the operation at the place, with the reply of the plain one on the value in the store
abbrev pub operation_now : Ledger → Place → Op → Operation
operation_now ledger place op = record { place = place; op = op; outcome = Some (Done (plain_reply op (stored_at ledger place).1)) }

-- the record that the operation leaves, by the store and the transaction's lock
abbrev pub record_now : Ledger → TxnId → Place → Op → Option LogRec
record_now ledger txn place op = record_of txn place op (stored_at ledger place) (lock_at ledger txn place)

-- the ledger with this log at the virtual node
abbrev pub with_log : Ledger → ℕ → List LogEntry → Ledger
with_log ledger v log = record { on = ledger.on; logs = logs_with ledger.logs v log; history = ledger.history; done = ledger.done }

-- the ledger with the operation carried out
abbrev pub with_operation : Ledger → TxnId → Place → Op → Ledger
with_operation ledger txn place op = record {
  on = ledger.on;
  logs = logs_with ledger.logs (ledger.on place) (log_with_optional (log_at ledger place) (record_now ledger txn place op));
  history = ledger.history;
  done = done_with ledger.done txn (operation_now ledger place op);
}

-- the ledger with one more member of the history
abbrev pub with_member : Ledger → TxnId → Ledger
with_member ledger txn = record { on = ledger.on; logs = ledger.logs; history = ledger.history ++ txn ∷ []; done = ledger.done }

-- the ledger after a step
abbrev pub after_step : Ledger → Step → Ledger
after_step ledger (carry_out txn place op) = with_operation ledger txn place op
after_step ledger (prepare v txn) = with_log ledger v (log_with (ledger.logs v) (Prepared txn))
after_step ledger (decide v txn) = with_log ledger v (log_with (ledger.logs v) (Decide txn))
after_step ledger (join txn) = with_member ledger txn
after_step ledger (undo v content) = with_log ledger v (log_with (ledger.logs v) content)
after_step ledger (finish v txn commit) = with_log ledger v (log_with (ledger.logs v) (End txn commit))
after_step ledger (cut v front) = with_log ledger v front

-- an operation may be carried out by a transaction that is no member and has not ended, where it holds the lock or the lock is free
pub record MayCarryOut (ledger : Ledger) (txn : TxnId) (place : Place) (op : Op) : Type 0 where
  -- the transaction is no member
  pub outside : is_among txn ledger.history ≡ false
  -- it has not ended
  pub unended : has_ended (log_at ledger place) txn ≡ false
  -- it holds the lock, or no other transaction holds one that conflicts
  pub free : is_held (lock_at ledger txn place) (mode_of op) ≡ false → (other : TxnId) → is_conflict (Some (mode_of op)) (lock_at ledger other place) ≡ true → other ≡ txn

-- a transaction may join the history where it is whole, and no member yet
pub record MayJoin (ledger : Ledger) (txn : TxnId) : Type 0 where
  -- the transaction is no member
  pub outside : is_among txn ledger.history ≡ false
  -- it is whole
  pub whole : IsWhole ledger txn

-- a compensation may be appended that undoes the first of the rest of a transaction that is no member and has not ended
pub record MayUndo (ledger : Ledger) (v : ℕ) (content : LogRec) : Type 0 where
  -- the transaction is no member
  pub outside : is_among (txn_of content) ledger.history ≡ false
  -- it has not ended
  pub unended : has_ended (ledger.logs v) (txn_of content) ≡ false
  -- the record undoes the first of its rest
  pub first : UndoesFirst (ledger.logs v) content
  -- and carries the state number that its place has
  pub carries : CarriesNumberBefore (ledger.logs v) (record { number = length (ledger.logs v) + 1; content = content })

-- an End may be appended that says whether its transaction is a member; of one that is none, nothing is left to undo
pub record MayFinish (ledger : Ledger) (v : ℕ) (txn : TxnId) (commit : Bool) : Type 0 where
  -- the End is with commit exactly where the transaction is a member
  pub member : is_among txn ledger.history ≡ commit
  -- it has not ended
  pub unended : has_ended (ledger.logs v) txn ≡ false
  -- without commit, nothing is left to undo
  pub undone : commit ≡ false → rest_to_undo (ledger.logs v) txn ≡ []

-- an end of a log may be lost that has nothing of members but Ends
pub record MayCut (ledger : Ledger) (v : ℕ) (front : List LogEntry) : Type 0 where
  -- the records that are lost
  pub lost : List LogEntry
  -- they stand after those that are left
  pub whole : ledger.logs v ≡ front ++ lost
  -- those of members are Ends
  pub ends : LosesEndsOfMembers ledger.history lost

-- what a step needs
abbrev pub IsEnabled : Ledger → Step → Type 0
IsEnabled ledger (carry_out txn place op) = MayCarryOut ledger txn place op
IsEnabled ledger (prepare v txn) = has_ended (ledger.logs v) txn ≡ false
IsEnabled ledger (decide v txn) = Unit {0}
IsEnabled ledger (join txn) = MayJoin ledger txn
IsEnabled ledger (undo v content) = MayUndo ledger v content
IsEnabled ledger (finish v txn commit) = MayFinish ledger v txn commit
IsEnabled ledger (cut v front) = MayCut ledger v front

-- no record of the transaction is lost
abbrev pub LosesNothingOf : TxnId → List LogEntry → List LogEntry → Type 0
LosesNothingOf txn log front = (lost : List LogEntry) → log ≡ front ++ lost → EachAfter (λ _ entry. is_of txn entry.content ≡ false) [] lost

-- the step leaves what the transaction has on the virtual node: another's join, undo step or End does, and a cut that loses nothing of it
abbrev pub IsSpared : Ledger → Step → TxnId → ℕ → Type 0
IsSpared ledger (carry_out actor place op) txn v = Unit {0}
IsSpared ledger (prepare u actor) txn v = Unit {0}
IsSpared ledger (decide u actor) txn v = Unit {0}
IsSpared ledger (join actor) txn v = txn ≢ actor
IsSpared ledger (undo u content) txn v = v ≡ u → txn ≢ txn_of content
IsSpared ledger (finish u actor commit) txn v = v ≡ u → txn ≢ actor
IsSpared ledger (cut u front) txn v = v ≡ u → LosesNothingOf txn (ledger.logs u) front

-- the ledger after steps, one after another
abbrev pub after_steps : Ledger → List Step → Ledger
after_steps ledger steps = fold after_step ledger steps

-- each step has what it needs in its turn
abbrev pub AreEnabled : Ledger → List Step → Type 0
AreEnabled ledger [] = Unit {0}
AreEnabled ledger (step ∷ steps) = IsEnabled ledger step × AreEnabled (after_step ledger step) steps

-- the ledger before any step
abbrev pub new_ledger : (Place → ℕ) → Ledger
new_ledger on = record { on = on; logs = λ v. []; history = []; done = λ txn. [] }
