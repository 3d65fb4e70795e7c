-- The ledger of the system: which steps of a ledger each event is.
use Rattle.std.specs.Prelude.{◌≡◌, ℕ, ◌<◌, ◌==◌, Bool, true, false, ◌&&◌, if◌then◌else◌, List, [], ◌∷◌, ◌++◌, Some, All, fold}
use Rattle.cl_control.specs.Calls.{command_acts, counts_vote, is_last_vote}
use Rattle.cl_control.specs.State.{Entry, is_among}
use Rattle.cl_log.specs.LogEntry.{LogEntry}
use Rattle.cl_log.specs.Open.{is_open, is_among as is_member}
use Rattle.cl_log.specs.Rest.{rest_to_undo}
use Rattle.cl_order.specs.Ledger.{Ledger, IsOrdered, IsWholeOn, IsWhole}
use Rattle.cl_order.specs.Steps.{Step, decide, join as joins, finish, after_steps, new_ledger}
use Rattle.cl_part.specs.Calls.{ask_op, prepare, undo_one, after_undo}
use Rattle.cl_part.specs.Laws.{steps_of}
use Rattle.cl_part.specs.Sound.{IsSound}
use Rattle.cl_part.specs.State.{State}
use Rattle.cl_runs.specs.Queues.{QueueEvent, deliver, take_line}
use Rattle.cl_runs.specs.World.{Shape}
use Rattle.cl_steps.specs.declared.actors.TheConstants.{FRONT}
use Rattle.cl_types.specs.declared.operations.TxnId.{TxnId}
use Rattle.cl_types.specs.Placement.{virtual_node_of}
use Rattle.cl_types.specs.Places.{Place}
use Rattle.cl_vnode.specs.Inputs.{has_decide}
use Rattle.cl_vnode.specs.Replica.{ReplicaState}
use Rattle.cl_wire.specs.Message.{Content, Command, Ask, Prepare, Vote, Finish, Decision}
use Rattle.cl_system.specs.Firm.{FirmWorld, FirmEvent, happens, reorder, join, after_firm_event, first_firm_world}
use Rattle.cl_system.specs.Replicas.{ReplicaWorld}
use Rattle.cl_system.specs.Roles.{IsOfSession}
use Rattle.cl_commit.specs.Life.{entry_in, IsToCome}

-- the steps of a rollback: as many undo steps as these entries
abbrev pub undo_steps : ℕ → State → TxnId → List LogEntry → List Step
undo_steps v part txn [] = []
undo_steps v part txn (entry ∷ rest) = steps_of v part (undo_one txn) ++ undo_steps v (after_undo part txn) txn rest

-- the steps of an end, with commit or after a rollback
abbrev pub finish_steps : ℕ → State → TxnId → Bool → List Step
finish_steps v part txn true = finish v txn true ∷ []
finish_steps v part txn false = undo_steps v part txn (rest_to_undo part.log txn) ++ finish v txn false ∷ []

-- the step of a decision: the Decide is appended
abbrev pub decision_steps : ℕ → TxnId → List Step
decision_steps v txn = decide v txn ∷ []

-- the steps that a message to a replica is
abbrev pub message_steps : ℕ → ReplicaState → Content → Bool → List Step
message_steps v replica (Command w txn number what) mark = if has_decide (command_acts replica.control txn number what) then decision_steps v txn else []
message_steps v replica (Vote w txn) mark = if counts_vote replica.control w txn && is_last_vote replica.control w txn then decision_steps v txn else []
message_steps v replica (Ask w txn number table key op) true = []
message_steps v replica (Ask w txn number table key op) false = steps_of v replica.part (ask_op txn (table, key) op)
message_steps v replica (Prepare w txn) mark = steps_of v replica.part (prepare txn)
message_steps v replica (Finish w txn commit) mark = if is_open replica.part.log txn then finish_steps v replica.part txn commit else []
message_steps v replica (Decision w txn commit) mark = if is_open replica.part.log txn then finish_steps v replica.part txn commit else []
message_steps v replica content mark = []

-- the steps that the first message on its way is
abbrev pub first_steps : ReplicaWorld → ℕ → Bool → List Content → List Step
first_steps world to mark [] = []
first_steps world to mark (content ∷ rest) = if to == FRONT then [] else message_steps to (world.replicas to) content mark

-- the steps that an event is
unfoldable pub event_steps : ReplicaWorld → QueueEvent → List Step
event_steps world (deliver from to mark) = first_steps world to mark (world.mail from to)
event_steps world (take_line number text said) = []
event_steps world other = []

-- the steps that an event of the firm system is: a transaction joins the history once it is firm
unfoldable pub firm_steps : FirmWorld → FirmEvent → List Step
firm_steps state (happens event) = event_steps state.world event
firm_steps state (reorder mail) = []
firm_steps state (join txn) = joins txn ∷ []

-- the firm system, and its ledger beside it
pub record Ledgered : Type 0 where
  pub state : FirmWorld
  pub ledger : Ledger

-- both after an event
abbrev pub after_both : Shape → Ledgered → FirmEvent → Ledgered
after_both shape both event = record { state = after_firm_event shape both.state event; ledger = after_steps both.ledger (firm_steps both.state event) }

-- the virtual node of a place, in a system of so many
abbrev pub place_on : ℕ → Place → ℕ
place_on nodes place = virtual_node_of place.1 nodes

-- both before any event
abbrev pub first_both : Shape → Ledgered
first_both shape = record { state = first_firm_world shape; ledger = new_ledger (place_on shape.nodes) }

-- both after events, first to last
unfoldable pub both_after : Shape → List FirmEvent → Ledgered
both_after shape events = fold (after_both shape) (first_both shape) events

-- the ledger is that of the firm system: its logs are those of the replicas, its history is what is firm, and whoever may still join it is whole at each participant
pub record IsLedgerOf (shape : Shape) (state : FirmWorld) (ledger : Ledger) : Type 0 where
  -- each place is on its virtual node
  pub on : (place : Place) → ledger.on place ≡ place_on shape.nodes place
  -- the log of each virtual node is that of its replica, which keeps all of it
  pub logs : (v : ℕ) → v < shape.nodes → ledger.logs v ≡ (state.world.replicas v).part.log
  pub sound : (v : ℕ) → v < shape.nodes → IsSound (state.world.replicas v).part
  -- the history is what is firm, and all of it was decided
  pub history : ledger.history ≡ state.firm
  pub decided : (txn : TxnId) → is_member txn state.firm ≡ true → is_member txn state.world.history ≡ true
  -- it is the one serial order
  pub ordered : IsOrdered ledger
  -- an open transaction is whole at each participant
  pub whole : (txn : TxnId) (entry : Entry) → IsOfSession txn → entry_in shape.nodes state.world txn ≡ Some entry → (v : ℕ) → v < shape.nodes → is_among v entry.participants ≡ true →
      IsWholeOn ledger txn v
  -- it has done something at participants alone
  pub places : (txn : TxnId) (entry : Entry) → IsOfSession txn → entry_in shape.nodes state.world txn ≡ Some entry →
      All (λ operation. is_among (ledger.on operation.place) entry.participants ≡ true) (ledger.done txn)
  -- a transaction that is to come has done nothing
  pub unborn : (txn : TxnId) → IsOfSession txn → IsToCome shape.nodes state.world txn → ledger.done txn ≡ []
  -- a transaction that was decided and is not firm yet is whole
  pub waiting : (txn : TxnId) → is_member txn state.world.history ≡ true → is_member txn state.firm ≡ false → IsWhole ledger txn
