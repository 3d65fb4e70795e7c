-- Why a transaction was aborted: when the cause that a reply ABORTED names is true.
use Rattle.std.specs.Prelude.{◌≡◌, ◌≢◌, ℕ, ◌<◌, true, List, Some}
use Rattle.cl_lines.specs.declared.out.Out.TheVariants.{Answer}
use Rattle.cl_serial.specs.Causes.{AsksConflicting}
use Rattle.cl_serial.specs.Exchanges.{Exchange}
use Rattle.cl_serial.specs.Serial.{StandsAt, IsIn, IsAnswered, IsOperation}
use Rattle.cl_serial.specs.Transactions.{commands_of, is_end}
use Rattle.cl_serial.specs.Transcript.{TranscriptEntry, written, quiet}
use Rattle.cl_types.specs.declared.answers.AbortCause.{AbortCause}
use Rattle.cl_types.specs.declared.answers.AbortCause.TheVariants.{Conflict, Node, Client, Memory}
use Rattle.cl_types.specs.declared.answers.Outcome.{Outcome}
use Rattle.cl_types.specs.declared.answers.Outcome.TheVariants.{Aborted}
use Rattle.cl_types.specs.declared.operations.Command.TheVariants.{Work, Abort}
use Rattle.cl_types.specs.declared.operations.Op.{Op}
use Rattle.cl_types.specs.declared.operations.TxnId.{TxnId}
use Rattle.cl_types.specs.Places.{Place}
use Rattle.cl_wire.specs.Message.{Content, Ask}

-- a reply that ends the transaction stands before a quiet moment that stands before this position
pub record HasEndedBefore (transcript : List TranscriptEntry) (name : TxnId) (position : ℕ) : Type 0 where
  pub outcome : Outcome
  pub ended : ℕ
  pub quieted : ℕ
  pub answered : IsAnswered transcript name outcome ended
  pub ends : is_end (Some outcome) ≡ true
  pub later : ended < quieted
  pub is_quiet : StandsAt transcript quieted quiet
  pub before : quieted < position

-- the other transaction is truly in conflict with the operation of this exchange, which was answered at this position; when it held a lock is said beside the transcript
pub record IsConflict (transcript : List TranscriptEntry) (Held : TxnId → TxnId → Place → Op → ℕ → ℕ → Type 0) (name holder : TxnId) (asked : Exchange) (replied : ℕ) : Type 0 where
  -- it is another transaction
  pub another : holder ≢ name
  -- the command is an operation
  pub table : List ℕ
  pub key : List ℕ
  pub op : Op
  pub operates : asked.command ≡ Work table key op
  -- between the command and the reply a lock of the other one refused the operation
  pub held : Held name holder (table, key) op asked.line replied
  -- before the reply the other one was fed a conflicting operation on the same record
  pub conflicting : AsksConflicting transcript holder table key op replied
  -- no quiet moment between its end and the command says that it has ended
  pub unended : HasEndedBefore transcript holder asked.line → ⊥

-- the message asks an operation of a participant for the transaction
abbrev pub IsAskOf : TxnId → Content → Type 0
IsAskOf name (Ask v txn number table key op) = txn ≡ name
IsAskOf name content = ⊥

-- a cause is true of the exchange in which the transaction was aborted, answered at this position: CLIENT of ABORT, CONFLICT of a conflicting operation, MEMORY of an operation, where want of memory is said beside it; NODE comes never yet
abbrev pub IsTrueCause : List TranscriptEntry → (TxnId → ℕ → Type 0) → (TxnId → TxnId → Place → Op → ℕ → ℕ → Type 0) → TxnId → Exchange → ℕ → AbortCause → Type 0
IsTrueCause transcript Short Held name asked replied (Conflict holder) = IsConflict transcript Held name holder asked replied
IsTrueCause transcript Short Held name asked replied (Node node) = ⊥
IsTrueCause transcript Short Held name asked replied Client = asked.command ≡ Abort
IsTrueCause transcript Short Held name asked replied Memory = IsOperation asked.command × Short name replied

-- each reply ABORTED of a transcript answers a command of a transaction, and its cause is true; who met want of memory before a position is said beside it, and whose lock refused which operation
abbrev pub TrueCauses : List TranscriptEntry → (TxnId → ℕ → Type 0) → (TxnId → TxnId → Place → Op → ℕ → ℕ → Type 0) → Type 0
TrueCauses transcript Short Held = (session position : ℕ) (cause : AbortCause) → StandsAt transcript position (written (Answer session (Aborted cause))) →
    (number : ℕ) × (asked : Exchange) × IsIn (commands_of transcript (record { session = session; number = number })) asked
    × (asked.answer ≡ Some (Aborted cause, position)) × IsTrueCause transcript Short Held (record { session = session; number = number }) asked position cause
