-- The life of a transaction, and where it may stand at each virtual node meanwhile.
use Rattle.std.specs.Prelude.{◌≡◌, ◌≢◌, ℕ, [], ◌<◌, ◌≤◌, Bool, true, false, ◌⊎◌, Option, Some, None, All}
use Rattle.std.specs.List.{list_any}
use Rattle.cl_control.specs.declared.entry.Phase.{Phase}
use Rattle.cl_control.specs.declared.entry.Phase.TheVariants.{Idle, Asked, Preparing, Decided, Logged}
use Rattle.cl_control.specs.Calls.{is_preparing}
use Rattle.cl_control.specs.State.{Entry, entry_of, is_among}
use Rattle.cl_front.specs.Sessions.{session_in}
use Rattle.cl_log.specs.Open.{is_among as is_member, has_begun, has_ended, is_open}
use Rattle.cl_node.specs.Addressing.{home_in}
use Rattle.cl_part.specs.State.{State}
use Rattle.cl_runs.specs.World.{Shape}
use Rattle.cl_steps.specs.declared.actors.TheConstants.{FRONT}
use Rattle.cl_system.specs.Replicas.{ReplicaWorld}
use Rattle.cl_system.specs.Roles.{IsOfSession}
use Rattle.cl_types.specs.declared.answers.Answer.{Answer as OpAnswer}
use Rattle.cl_types.specs.declared.answers.Outcome.TheVariants.{Committed, Aborted}
use Rattle.cl_types.specs.declared.operations.Command.TheVariants.{Begin}
use Rattle.cl_types.specs.declared.operations.TxnId.{TxnId}
use Rattle.cl_types.specs.Transactions.{same_txn}
use Rattle.cl_wire.specs.Message.{Content, Command, Outcome}
use Rattle.cl_commit.specs.Standing.{Standing, absent, running, asked, answered, preparing, voting, voted, ending, over, part_view, StandsSo}

-- the message is the BEGIN of the transaction
abbrev pub is_begin_of : TxnId → Content → Bool
is_begin_of txn (Command v other number Begin) = same_txn txn other
is_begin_of txn content = false

-- the BEGIN of the transaction is on its way
abbrev pub is_beginning : ℕ → ReplicaWorld → TxnId → Bool
is_beginning nodes world txn = list_any (is_begin_of txn) (world.mail FRONT (home_in nodes txn))

-- the session has begun the transaction, and its controller has heard of it
pub record HasBegun (nodes : ℕ) (world : ReplicaWorld) (txn : TxnId) : Type 0 where
  pub begun : txn.number ≤ (session_in world.front.sessions txn.session).begun
  pub heard : is_beginning nodes world txn ≡ false

-- the session has not begun it, or its BEGIN is on its way
abbrev pub IsToCome : ℕ → ReplicaWorld → TxnId → Type 0
IsToCome nodes world txn = ((session_in world.front.sessions txn.session).begun < txn.number) ⊎ (is_beginning nodes world txn ≡ true)

-- how far a transaction is
pub data Life : Type 0 where
  -- it is to come
  to_come : Life
  -- its controller has it open
  open_as : Entry → Life
  -- it has committed
  committed : Life
  -- it was aborted
  aborted : Life

-- nobody has voted before COMMIT
abbrev pub IsUnvoted : Entry → Type 0
IsUnvoted entry = is_preparing entry.phase ≡ false → entry.votes ≡ []

-- the controller of the transaction
abbrev pub entry_in : ℕ → ReplicaWorld → TxnId → Option Entry
entry_in nodes world txn = entry_of (world.replicas (home_in nodes txn)).control txn

-- the transaction is so far: exactly a member of the history has committed
abbrev pub IsSoFar : ℕ → ReplicaWorld → TxnId → Life → Type 0
IsSoFar nodes world txn to_come = IsToCome nodes world txn × (entry_in nodes world txn ≡ None) × (is_member txn world.history ≡ false)
IsSoFar nodes world txn (open_as entry) = HasBegun nodes world txn × (entry_in nodes world txn ≡ Some entry) × (is_member txn world.history ≡ false) × IsUnvoted entry
IsSoFar nodes world txn committed = HasBegun nodes world txn × (entry_in nodes world txn ≡ None) × (is_member txn world.history ≡ true)
IsSoFar nodes world txn aborted = HasBegun nodes world txn × (entry_in nodes world txn ≡ None) × (is_member txn world.history ≡ false)

-- where a participant may stand in a phase; whether it has voted
abbrev pub MayParticipate : Phase → Bool → ℕ → Standing → Type 0
MayParticipate Idle has_voted v standing = standing ≡ running
MayParticipate (Asked number w) has_voted v standing = ((v ≡ w) × ((standing ≡ asked number) ⊎ ((answer : OpAnswer) × (standing ≡ answered number answer)))) ⊎ ((v ≢ w) × (standing ≡ running))
MayParticipate (Preparing number) true v standing = standing ≡ voted
MayParticipate (Preparing number) false v standing = (standing ≡ preparing) ⊎ (standing ≡ voting)
MayParticipate (Decided number) has_voted v standing = ⊥
MayParticipate (Logged number) has_voted v standing = ⊥

-- where an open transaction may stand: absent where it is no participant
abbrev pub MayStandOpen : Bool → Entry → ℕ → Standing → Type 0
MayStandOpen true entry v standing = MayParticipate entry.phase (is_among v entry.votes) v standing
MayStandOpen false entry v standing = standing ≡ absent

-- where a transaction may stand at a virtual node
abbrev pub MayStand : Life → ℕ → Standing → Type 0
MayStand to_come v standing = standing ≡ absent
MayStand (open_as entry) v standing = MayStandOpen (is_among v entry.participants) entry v standing
MayStand committed v standing = (standing ≡ absent) ⊎ ((standing ≡ ending true) ⊎ (standing ≡ over))
MayStand aborted v standing = (standing ≡ absent) ⊎ ((standing ≡ ending false) ⊎ (standing ≡ over))

-- a transaction lives so, and stands at each virtual node accordingly
pub record Lives (shape : Shape) (world : ReplicaWorld) (txn : TxnId) : Type 0 where
  pub life : Life
  pub so_far : IsSoFar shape.nodes world txn life
  pub stands : (v : ℕ) → v < shape.nodes → (standing : Standing) × StandsSo v txn (part_view shape.nodes world txn v) standing × MayStand life v standing

-- an outcome on its way is true: COMMITTED is of a member, ABORTED of a transaction that was aborted
abbrev pub IsTrueOutcome : Shape → ReplicaWorld → Content → Type 0
IsTrueOutcome shape world (Outcome txn number Committed) = IsSoFar shape.nodes world txn committed
IsTrueOutcome shape world (Outcome txn number (Aborted cause)) = IsSoFar shape.nodes world txn aborted
IsTrueOutcome shape world content = Unit {0}

-- in the log of a participant whoever holds a lock is open, and who has ended has begun
pub record IsWholePart (part : State) : Type 0 where
  pub held : All (λ grant. is_open part.log grant.txn ≡ true) part.grants
  pub begun : (txn : TxnId) → has_ended part.log txn ≡ true → has_begun part.log txn ≡ true

-- what holds between two events
pub record CommitsWhole (shape : Shape) (world : ReplicaWorld) : Type 0 where
  pub lives : (txn : TxnId) → IsOfSession txn → Lives shape world txn
  pub outcomes : (v : ℕ) → v < shape.nodes → All (IsTrueOutcome shape world) (world.mail v FRONT)
  pub parts : (v : ℕ) → v < shape.nodes → IsWholePart (world.replicas v).part
