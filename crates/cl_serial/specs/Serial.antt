-- What the kept history promises of a transcript.
use Rattle.std.specs.Prelude.{◌≡◌, ℕ, ◌<◌, List, ◌++◌, length, Some, None, IsSome, slice_get, take, ◌↔◌}
use Rattle.std.specs.List.{flat_map}
use Rattle.cl_types.specs.declared.limits.TheConstants.{OPERATIONS_MAX}
use Rattle.cl_types.specs.declared.operations.Command.{Command}
use Rattle.cl_types.specs.declared.operations.Command.TheVariants.{Begin, Work, Commit, Abort}
use Rattle.cl_types.specs.declared.operations.TxnId.{TxnId}
use Rattle.cl_types.specs.declared.answers.AbortCause.{AbortCause}
use Rattle.cl_types.specs.declared.answers.Reply.{Reply}
use Rattle.cl_types.specs.declared.answers.Outcome.{Outcome}
use Rattle.cl_types.specs.declared.answers.Outcome.TheVariants.{Done, Begun, Committed, Aborted, NotTxn, InTxn, Full}
use Rattle.cl_lines.specs.declared.line.LineFault.{LineFault}
use Rattle.cl_lines.specs.declared.out.Out.TheVariants.{Answer, BadLine}
use Rattle.cl_lines.specs.Line.{fault_of}
use Rattle.cl_serial.specs.Transcript.{TranscriptEntry, fed, written, questions, answers, faulty_lines, refusals}
use Rattle.cl_serial.specs.Exchanges.{Exchange, exchanges, outcome_of}
use Rattle.cl_serial.specs.Transactions.{Transaction, Session, session_after, session_state, transaction_of, commands_in, commands_of}
use Rattle.cl_serial.specs.PlainMap.{Values, Operation, operations, no_values, after_operations, RepliesAgree}

-- x stands at this position of the list
abbrev pub StandsAt : {X : Type 0} → List X → ℕ → X → Type 0
StandsAt list position x = slice_get list position ≡ Some x

-- x is in the list
abbrev pub IsIn : {X : Type 0} → List X → X → Type 0
IsIn list x = (position : ℕ) × StandsAt list position x

-- the transaction has a command of this kind
abbrev pub Asks : List TranscriptEntry → TxnId → Command → Type 0
Asks transcript name command = (exchange : Exchange) × IsIn (commands_of transcript name) exchange × (exchange.command ≡ command)

-- a command of the transaction was answered with this outcome, written at this position
abbrev pub IsAnswered : List TranscriptEntry → TxnId → Outcome → ℕ → Type 0
IsAnswered transcript name outcome position =
    (exchange : Exchange) × IsIn (commands_of transcript name) exchange × (exchange.answer ≡ Some (outcome, position))

-- the line BEGIN of the transaction stands at this position
abbrev pub BeginsAt : List TranscriptEntry → TxnId → ℕ → Type 0
BeginsAt transcript name position = (transaction : Transaction) × (transaction_of transcript name ≡ Some transaction) × (transaction.begin ≡ position)

-- the operations of the history's members, in the order of the history and of their lines
abbrev pub operations_of : List TranscriptEntry → List TxnId → List Operation
operations_of transcript history = flat_map (λ name. operations (commands_of transcript name)) history

-- the map after the history: its members' operations done one after another from the empty map
abbrev pub values_after : List TranscriptEntry → List TxnId → Values
values_after transcript history = after_operations no_values (operations_of transcript history)

-- the history fits the transcript
pub record HistoryFits (transcript : List TranscriptEntry) (history : List TxnId) : Type 0 where
  -- its members differ
  pub distinct : (i j : ℕ) (name : TxnId) → StandsAt history i name → StandsAt history j name → i ≡ j
  -- each has COMMIT among its commands
  pub committing : (name : TxnId) → IsIn history name → Asks transcript name Commit
  -- each transaction with the reply COMMITTED is a member
  pub committed_listed : (name : TxnId) (position : ℕ) → IsAnswered transcript name Committed position → IsIn history name
  -- and has that reply once
  pub committed_once : (name : TxnId) (p q : ℕ) → IsAnswered transcript name Committed p → IsAnswered transcript name Committed q → p ≡ q
  -- no transaction with a reply ABORTED is a member
  pub aborted_absent : (name : TxnId) (cause : AbortCause) (position : ℕ) → IsAnswered transcript name (Aborted cause) position → IsIn history name → ⊥
  -- the members' operations, done one after another from the empty map, give the replies of the transcript
  pub replies_replay : RepliesAgree no_values (operations_of transcript history)

-- COMMITTED is written only for members of the history
abbrev pub CommittedForMembers : List TranscriptEntry → List TxnId → Type 0
CommittedForMembers transcript history = (session position : ℕ) → StandsAt transcript position (written (Answer session Committed)) →
    (number : ℕ) × IsIn history (record { session = session; number = number }) × IsAnswered transcript (record { session = session; number = number }) Committed position

-- where COMMITTED of one member stands before BEGIN of another, they stand so in the history
abbrev pub RealTimeOrder : List TranscriptEntry → List TxnId → Type 0
RealTimeOrder transcript history = (i j : ℕ) (x y : TxnId) (committed began : ℕ) → StandsAt history i x → StandsAt history j y →
    IsAnswered transcript x Committed committed → BeginsAt transcript y began → committed < began → i < j

-- the k-th answer of a session answers its k-th well-formed line, which stands before it
abbrev pub AnswersFollow : List TranscriptEntry → Type 0
AnswersFollow transcript = (session k : ℕ) (outcome : Outcome) (position : ℕ) → StandsAt (answers session transcript) k (outcome, position) →
    (command : Command) × (line : ℕ) × StandsAt (questions session transcript) k (command, line) × (line < position)

-- the command is an operation
abbrev pub IsOperation : Command → Type 0
IsOperation Begin = ⊥
IsOperation (Work table key op) = Unit {0}
IsOperation Commit = ⊥
IsOperation Abort = ⊥

-- a transaction that has the most operations
abbrev pub IsFull : Transaction → Type 0
IsFull transaction = length (operations transaction.commands) ≡ OPERATIONS_MAX

-- in a transaction, of which the fact holds
abbrev pub InTransaction : Session → (Transaction → Type 0) → Type 0
InTransaction session P = (transaction : Transaction) × (session.current ≡ Some transaction) × P transaction

-- each outcome comes only where it may, and ERR NOTXN, ERR INTXN, ERR FULL and the OK to BEGIN exactly where they must
pub record FitsTurn (session : Session) (command : Command) (outcome : Outcome) : Type 0 where
  -- for a command other than BEGIN outside a transaction
  pub not_txn : (outcome ≡ NotTxn) ↔ ((session.current ≡ None) × (command ≡ Begin → ⊥))
  -- for BEGIN in a transaction
  pub in_txn : (outcome ≡ InTxn) ↔ (InTransaction session (λ _. Unit {0}) × (command ≡ Begin))
  -- for an operation in a transaction that has the most operations
  pub full : (outcome ≡ Full) ↔ (InTransaction session IsFull × IsOperation command)
  -- for BEGIN outside a transaction
  pub begun : (outcome ≡ Begun) ↔ ((session.current ≡ None) × (command ≡ Begin))
  -- the reply of an operation answers an operation in a transaction
  pub done : (reply : Reply) → outcome ≡ Done reply → InTransaction session (λ _. Unit {0}) × IsOperation command
  -- COMMITTED answers COMMIT in a transaction
  pub committed : outcome ≡ Committed → InTransaction session (λ _. Unit {0}) × (command ≡ Commit)
  -- ABORTED answers a command other than BEGIN in a transaction
  pub aborted : (cause : AbortCause) → outcome ≡ Aborted cause → InTransaction session (λ _. Unit {0}) × (command ≡ Begin → ⊥)

-- each answer fits the session as the exchanges before it left it
abbrev pub AnswersFitTurns : List TranscriptEntry → Type 0
AnswersFitTurns transcript = (session k : ℕ) (exchange : Exchange) (outcome : Outcome) → StandsAt (exchanges session transcript) k exchange →
    outcome_of exchange ≡ Some outcome → FitsTurn (session_after (take k (exchanges session transcript))) exchange.command outcome

-- a line is refused only where it was fed and has that fault
abbrev pub RefusalsTrue : List TranscriptEntry → Type 0
RefusalsTrue transcript = (position line : ℕ) (fault : LineFault) → StandsAt transcript position (written (BadLine line fault)) →
    (before : ℕ) × (text : List ℕ) × (before < position) × StandsAt transcript before (fed line text) × (fault_of text ≡ Some fault)

-- the refusals are those of the first lines with a fault, each once and in their order
abbrev pub RefusalsOnce : List TranscriptEntry → Type 0
RefusalsOnce transcript = (rest : List (ℕ × LineFault)) × (faulty_lines transcript ≡ refusals transcript ++ rest)

-- each well-formed client line is answered, and each line with a fault is refused
pub record EveryLineAnswered (transcript : List TranscriptEntry) : Type 0 where
  pub answered : (session k : ℕ) (exchange : Exchange) → StandsAt (exchanges session transcript) k exchange → IsSome (outcome_of exchange)
  pub refused : (position line : ℕ) (text : List ℕ) (fault : LineFault) → StandsAt transcript position (fed line text) → fault_of text ≡ Some fault →
      (after : ℕ) × (position < after) × StandsAt transcript after (written (BadLine line fault))

-- the guarantee: the history explains the transcript, one transaction after another
pub record Serializable (transcript : List TranscriptEntry) (history : List TxnId) : Type 0 where
  pub history_fits : HistoryFits transcript history
  pub committed_for_members : CommittedForMembers transcript history
  pub real_time_order : RealTimeOrder transcript history
  pub answers_follow : AnswersFollow transcript
  pub answers_fit_turns : AnswersFitTurns transcript
  pub refusals_true : RefusalsTrue transcript
  pub refusals_once : RefusalsOnce transcript
