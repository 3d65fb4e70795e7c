-- A session at the front and its controller: exactly one place holds what is under way.
use Rattle.std.specs.Prelude.{◌≡◌, ℕ, ◌+◌, ◌%◌, ◌≤◌, nat_eq, Bool, true, false, List, [], ◌∷◌, filter, Option, Some, None}
use Rattle.std.specs.Option.{option_map_or}
use Rattle.cl_control.specs.declared.entry.Phase.{Phase}
use Rattle.cl_control.specs.declared.entry.Phase.TheVariants.{Idle, Asked, Preparing, Decided, Logged}
use Rattle.cl_control.specs.State.{Entry}
use Rattle.cl_front.specs.declared.current.Current.{Current}
use Rattle.cl_front.specs.Session.{SessionState}
use Rattle.cl_front.specs.Sessions.{session_in}
use Rattle.cl_steps.specs.declared.actors.TheConstants.{FRONT}
use Rattle.cl_system.specs.Replicas.{ReplicaWorld}
use Rattle.cl_types.specs.declared.answers.Outcome.{Outcome as CommandOutcome}
use Rattle.cl_types.specs.declared.answers.Outcome.TheVariants.{Done, Begun, Committed, Aborted, NotTxn, InTxn, Full}
use Rattle.cl_types.specs.declared.limits.TheConstants.{OPERATIONS_MAX}
use Rattle.cl_types.specs.declared.operations.Command.{Command as ClientCommand}
use Rattle.cl_types.specs.declared.operations.Command.TheVariants.{Begin, Work, Commit, Abort}
use Rattle.cl_types.specs.declared.operations.TxnId.{TxnId}
use Rattle.cl_wire.specs.Message.{Content, Command, Outcome, Ask, Answer, Prepare, Vote, Finish, Inquire, Decision}

-- the transaction that a message names, if it names one
abbrev pub txn_in : Content → Option TxnId
txn_in (Command v txn number what) = Some txn
txn_in (Outcome txn number outcome) = Some txn
txn_in (Ask v txn number table key op) = Some txn
txn_in (Answer v txn number answer) = Some txn
txn_in (Prepare v txn) = Some txn
txn_in (Vote v txn) = Some txn
txn_in (Finish v txn commit) = Some txn
txn_in (Inquire v txn) = Some txn
txn_in (Decision v txn commit) = Some txn
txn_in content = None

-- the message is of this session
abbrev pub is_of_session : ℕ → Content → Bool
is_of_session s content = option_map_or (λ txn. nat_eq s txn.session) (txn_in content) false

-- what there is of a session: its state at the front, what is on its way to its controller, its open transactions there, and what is on its way back
pub record SessionView : Type 0 where
  pub session : SessionState
  pub commands : List Content
  pub entries : List Entry
  pub outcomes : List Content

-- the view of session s, whose controller is the primary of virtual node s % nodes
abbrev pub view_of : ℕ → ReplicaWorld → ℕ → SessionView
view_of nodes world s = record {
  session = session_in world.front.sessions s;
  commands = filter (is_of_session s) (world.mail FRONT (s % nodes));
  entries = filter (λ entry. nat_eq s entry.txn.session) (world.replicas (s % nodes)).control.transactions;
  outcomes = filter (is_of_session s) (world.mail (s % nodes) FRONT);
}

-- where what is under way is
pub data Stage : Type 0 where
  -- the session is in no transaction
  outside : Stage
  -- it is in one, and no command is outstanding
  ready : Current → Entry → Stage
  -- its command is on the way to the controller
  asking : Current → ClientCommand → List Entry → Stage
  -- the controller is at its command
  working : Current → Entry → Stage
  -- the outcome is on its way back
  telling : Current → CommandOutcome → List Entry → Stage

-- the transaction that the session began last
abbrev pub last_begun : ℕ → SessionState → TxnId
last_begun s session = record { session = s; number = session.begun }

-- nothing is on its way, and the controller has nothing of the session
pub record HasNothing (view : SessionView) : Type 0 where
  pub commands : view.commands ≡ []
  pub entries : view.entries ≡ []
  pub outcomes : view.outcomes ≡ []

-- the session is in a transaction, with as many operations as one may have at most
pub record IsInTransaction (view : SessionView) (current : Current) (outstanding : Bool) : Type 0 where
  pub inside : view.session.current ≡ Some current
  pub waits : current.outstanding ≡ outstanding
  pub operations : current.operations ≤ OPERATIONS_MAX

-- the controller's open transaction is the session's, and waits for its next command
pub record WaitsForNext (s : ℕ) (view : SessionView) (entry : Entry) : Type 0 where
  pub of : entry.txn ≡ last_begun s view.session
  pub phase : entry.phase ≡ Idle

-- BEGIN and operations are numbered on: each command so far is one of these
abbrev pub IsNumberedOn : Current → Type 0
IsNumberedOn current = current.commands ≡ current.operations

-- COMMIT and ABORT come after these, once
abbrev pub IsNumberedLast : Current → Type 0
IsNumberedLast current = current.commands ≡ current.operations + 1

-- what the controller has while a command is on its way to it
abbrev pub HasBeforeCommand : ℕ → SessionView → Current → ClientCommand → List Entry → Type 0
HasBeforeCommand s view current Begin entries = IsNumberedOn current × (entries ≡ [])
HasBeforeCommand s view current (Work table key op) entries = IsNumberedOn current × ((entry : Entry) × (entries ≡ entry ∷ []) × WaitsForNext s view entry)
HasBeforeCommand s view current Commit entries = IsNumberedLast current × ((entry : Entry) × (entries ≡ entry ∷ []) × WaitsForNext s view entry)
HasBeforeCommand s view current Abort entries = IsNumberedLast current × ((entry : Entry) × (entries ≡ entry ∷ []) × WaitsForNext s view entry)

-- what the controller is at
abbrev pub IsWorkingOn : Current → Phase → Type 0
IsWorkingOn current Idle = ⊥
IsWorkingOn current (Asked number v) = (number ≡ current.commands) × IsNumberedOn current
IsWorkingOn current (Preparing number) = (number ≡ current.commands) × IsNumberedLast current
IsWorkingOn current (Decided number) = ⊥
IsWorkingOn current (Logged number) = ⊥

-- what the controller has while an outcome is on its way back: COMMITTED and ABORTED end the transaction
abbrev pub HasAfterOutcome : ℕ → SessionView → Current → CommandOutcome → List Entry → Type 0
HasAfterOutcome s view current Begun entries = IsNumberedOn current × ((entry : Entry) × (entries ≡ entry ∷ []) × WaitsForNext s view entry)
HasAfterOutcome s view current (Done reply) entries = IsNumberedOn current × ((entry : Entry) × (entries ≡ entry ∷ []) × WaitsForNext s view entry)
HasAfterOutcome s view current Committed entries = IsNumberedLast current × (entries ≡ [])
HasAfterOutcome s view current (Aborted cause) entries = (current.commands ≤ current.operations + 1) × (entries ≡ [])
HasAfterOutcome s view current NotTxn entries = ⊥
HasAfterOutcome s view current InTxn entries = ⊥
HasAfterOutcome s view current Full entries = ⊥

-- nothing of the session's transaction is outstanding
pub record IsReady (s : ℕ) (view : SessionView) (current : Current) (entry : Entry) : Type 0 where
  pub inside : IsInTransaction view current false
  pub numbered : IsNumberedOn current
  pub commands : view.commands ≡ []
  pub entries : view.entries ≡ entry ∷ []
  pub waits : WaitsForNext s view entry
  pub outcomes : view.outcomes ≡ []

-- the outstanding command is on its way to the controller
pub record IsAsking (nodes s : ℕ) (view : SessionView) (current : Current) (what : ClientCommand) (entries : List Entry) : Type 0 where
  pub inside : IsInTransaction view current true
  pub commands : view.commands ≡ Command (s % nodes) (last_begun s view.session) current.commands what ∷ []
  pub has : view.entries ≡ entries
  pub before : HasBeforeCommand s view current what entries
  pub outcomes : view.outcomes ≡ []

-- the controller is at the outstanding command
pub record IsWorking (s : ℕ) (view : SessionView) (current : Current) (entry : Entry) : Type 0 where
  pub inside : IsInTransaction view current true
  pub commands : view.commands ≡ []
  pub entries : view.entries ≡ entry ∷ []
  pub of : entry.txn ≡ last_begun s view.session
  pub on : IsWorkingOn current entry.phase
  pub outcomes : view.outcomes ≡ []

-- its outcome is on its way back
pub record IsTelling (s : ℕ) (view : SessionView) (current : Current) (outcome : CommandOutcome) (entries : List Entry) : Type 0 where
  pub inside : IsInTransaction view current true
  pub commands : view.commands ≡ []
  pub has : view.entries ≡ entries
  pub after : HasAfterOutcome s view current outcome entries
  pub outcomes : view.outcomes ≡ Outcome (last_begun s view.session) current.commands outcome ∷ []

-- the session is at this stage
abbrev pub IsAt : ℕ → ℕ → SessionView → Stage → Type 0
IsAt nodes s view outside = (view.session.current ≡ None) × HasNothing view
IsAt nodes s view (ready current entry) = IsReady s view current entry
IsAt nodes s view (asking current what entries) = IsAsking nodes s view current what entries
IsAt nodes s view (working current entry) = IsWorking s view current entry
IsAt nodes s view (telling current outcome entries) = IsTelling s view current outcome entries
