-- What the transcript shows of a session, and what the session has at the front: they tell the same.
use Rattle.std.specs.Prelude.{◌≡◌, ℕ, ◌+◌, ◌≤◌, false, List, [], ◌∷◌, length, map, take, drop, Some, None}
use Rattle.cl_control.specs.declared.entry.Phase.{Phase}
use Rattle.cl_control.specs.declared.entry.Phase.TheVariants.{Asked, Preparing}
use Rattle.cl_front.specs.declared.current.Current.{Current}
use Rattle.cl_front.specs.Session.{SessionState, is_outstanding}
use Rattle.cl_serial.specs.Exchanges.{Exchange, exchanges}
use Rattle.cl_serial.specs.PlainMap.{operations}
use Rattle.cl_serial.specs.Transactions.{Session, Transaction, session_after}
use Rattle.cl_serial.specs.Transcript.{TranscriptEntry, questions, answers}
use Rattle.cl_system.specs.Replicas.{ReplicaWorld}
use Rattle.cl_runs.specs.World.{Shape}
use Rattle.cl_types.specs.declared.answers.AbortCause.TheVariants.{Conflict, Client, Memory}
use Rattle.cl_types.specs.declared.answers.Outcome.{Outcome}
use Rattle.cl_types.specs.declared.answers.Outcome.TheVariants.{Done, Begun, Committed, Aborted}
use Rattle.cl_types.specs.declared.limits.TheConstants.{SESSIONS_MAX}
use Rattle.cl_types.specs.declared.operations.Command.{Command}
use Rattle.cl_types.specs.declared.operations.Command.TheVariants.{Begin, Work, Commit, Abort}
use Rattle.cl_exchange.specs.Stage.{Stage, outside, ready, asking, working, telling, IsAt, view_of}

-- the exchanges that were answered, in order
abbrev pub answered_part : ℕ → List TranscriptEntry → List Exchange
answered_part s transcript = take (length (answers s transcript)) (exchanges s transcript)

-- the session as these exchanges make it
abbrev pub told_session : ℕ → List TranscriptEntry → Session
told_session s transcript = session_after (answered_part s transcript)

-- the commands without an answer, in the order of their lines
abbrev pub pending : ℕ → List TranscriptEntry → List Command
pending s transcript = map (λ question. question.0) (drop (length (answers s transcript)) (questions s transcript))

-- the session is in a transaction, as the transcript shows, and has begun one more than have ended
pub record IsInside (told : Session) (session : SessionState) (transaction : Transaction) (operations_so_far : ℕ) : Type 0 where
  pub current : told.current ≡ Some transaction
  pub begun : session.begun ≡ length told.ended + 1
  pub count : length (operations transaction.commands) ≡ operations_so_far

-- the session is outside one; it has begun so many
pub record IsOutside (told : Session) (session : SessionState) (begun : ℕ) : Type 0 where
  pub current : told.current ≡ None
  pub number : session.begun ≡ begun

-- the session with a command outstanding: it is inside a transaction, of which an operation may be one more, or its BEGIN is outstanding
abbrev pub IsToldOutstanding : Session → SessionState → Current → Command → Type 0
IsToldOutstanding told session current Begin = IsOutside told session (length told.ended + 1) × (current.operations ≡ 0)
IsToldOutstanding told session current (Work table key op) = (transaction : Transaction) × (count : ℕ) × (current.operations ≡ count + 1) × IsInside told session transaction count
IsToldOutstanding told session current Commit = (transaction : Transaction) × IsInside told session transaction current.operations
IsToldOutstanding told session current Abort = (transaction : Transaction) × IsInside told session transaction current.operations

-- the controller is at a command of this kind
abbrev pub IsCommandOf : Phase → Command → Type 0
IsCommandOf (Asked number v) (Work table key op) = Unit {0}
IsCommandOf (Preparing number) Commit = Unit {0}
IsCommandOf phase command = ⊥

-- the outcome is one of a command of this kind
abbrev pub IsOutcomeOf : Command → Outcome → Type 0
IsOutcomeOf Begin Begun = Unit {0}
IsOutcomeOf (Work table key op) (Done reply) = Unit {0}
IsOutcomeOf (Work table key op) (Aborted (Conflict holder)) = Unit {0}
IsOutcomeOf (Work table key op) (Aborted Memory) = Unit {0}
IsOutcomeOf Commit Committed = Unit {0}
IsOutcomeOf Abort (Aborted Client) = Unit {0}
IsOutcomeOf command outcome = ⊥

-- what the transcript shows is what the session has, at its stage: the outstanding command is the first without an answer
abbrev pub TellsStage : List Command → Session → SessionState → Stage → Type 0
TellsStage left told session outside = (left ≡ []) × IsOutside told session (length told.ended)
TellsStage left told session (ready current entry) = (left ≡ []) × ((transaction : Transaction) × IsInside told session transaction current.operations)
TellsStage left told session (asking current what entries) = (left ≡ what ∷ session.waiting) × IsToldOutstanding told session current what
TellsStage left told session (working current entry) =
    (what : Command) × (left ≡ what ∷ session.waiting) × IsToldOutstanding told session current what × IsCommandOf entry.phase what
TellsStage left told session (telling current outcome entries) =
    (what : Command) × (left ≡ what ∷ session.waiting) × IsToldOutstanding told session current what × IsOutcomeOf what outcome

-- of a session the transcript shows what it has
pub record IsTold (shape : Shape) (world : ReplicaWorld) (s : ℕ) : Type 0 where
  -- each answer has its command
  pub few : length (answers s world.front.transcript) ≤ length (questions s world.front.transcript)
  -- commands wait only behind an outstanding one
  pub rests : is_outstanding (view_of shape.nodes world s).session ≡ false → (view_of shape.nodes world s).session.waiting ≡ []
  pub tells : (stage : Stage) → IsAt shape.nodes s (view_of shape.nodes world s) stage →
      TellsStage (pending s world.front.transcript) (told_session s world.front.transcript) (view_of shape.nodes world s).session stage

-- of each session it does
abbrev pub SessionsAreTold : Shape → ReplicaWorld → Type 0
SessionsAreTold shape world = (s : ℕ) → 1 ≤ s → s ≤ SESSIONS_MAX → IsTold shape world s
