-- Who gives what to whom.
use Rattle.std.specs.Prelude.{◌≡◌, ℕ, ◌<◌, true, All}
use Rattle.cl_types.specs.Names.{is_between}
use Rattle.cl_types.specs.Placement.{virtual_node_of}
use Rattle.cl_types.specs.declared.limits.TheConstants.{SESSIONS_MAX}
use Rattle.cl_types.specs.declared.operations.TxnId.{TxnId}
use Rattle.cl_lone.specs.Calm.{IsCalm}
use Rattle.cl_node.specs.Addressing.{home_in}
use Rattle.cl_runs.specs.World.{Shape}
use Rattle.cl_steps.specs.declared.actors.TheConstants.{FRONT}
use Rattle.cl_vnode.specs.Replica.{ReplicaState}
use Rattle.cl_wire.specs.Message.{Content, Command, Outcome, Ask, Answer, Prepare, Vote, Finish}
use Rattle.cl_system.specs.Replicas.{ReplicaWorld}

-- a transaction is of a session, which there is
abbrev pub IsOfSession : TxnId → Type 0
IsOfSession txn = is_between 1 SESSIONS_MAX txn.session ≡ true

-- a message goes from the front to the controller of its transaction
pub record IsToController (nodes from to v : ℕ) (txn : TxnId) : Type 0 where
  pub session : IsOfSession txn
  pub giver : from ≡ FRONT
  pub node : v ≡ home_in nodes txn
  pub receiver : to ≡ v

-- from the controller to the front
pub record IsToFront (nodes from to : ℕ) (txn : TxnId) : Type 0 where
  pub session : IsOfSession txn
  pub giver : from ≡ home_in nodes txn
  pub receiver : to ≡ FRONT

-- from the controller to a participant
pub record IsToParticipant (nodes from to v : ℕ) (txn : TxnId) : Type 0 where
  pub session : IsOfSession txn
  pub giver : from ≡ home_in nodes txn
  pub receiver : to ≡ v
  pub node : v < nodes

-- from a participant to the controller
pub record IsFromParticipant (nodes from to v : ℕ) (txn : TxnId) : Type 0 where
  pub session : IsOfSession txn
  pub giver : from ≡ v
  pub receiver : to ≡ home_in nodes txn
  pub node : v < nodes

-- a message goes between the actors that its kind names
abbrev pub IsAddressed : ℕ → ℕ → ℕ → Content → Type 0
IsAddressed nodes from to (Command v txn number what) = IsToController nodes from to v txn
IsAddressed nodes from to (Outcome txn number outcome) = IsToFront nodes from to txn
IsAddressed nodes from to (Ask v txn number table key op) = IsToParticipant nodes from to v txn × (v ≡ virtual_node_of key nodes)
IsAddressed nodes from to (Answer v txn number answer) = IsFromParticipant nodes from to v txn
IsAddressed nodes from to (Prepare v txn) = IsToParticipant nodes from to v txn
IsAddressed nodes from to (Vote v txn) = IsFromParticipant nodes from to v txn
IsAddressed nodes from to (Finish v txn commit) = IsToParticipant nodes from to v txn
IsAddressed nodes from to content = ⊥

-- a replica of a virtual node of the system: it is calm, and its controller has transactions of its own sessions
pub record IsInPlace (nodes v : ℕ) (state : ReplicaState) : Type 0 where
  pub own : state.v ≡ v
  pub same_nodes : state.control.nodes ≡ nodes
  pub calm : IsCalm state
  pub sessions : All (λ entry. IsOfSession entry.txn) state.control.transactions
  pub home : All (λ entry. home_in nodes entry.txn ≡ v) state.control.transactions

-- each replica is in its place, and each message between the actors that its kind names
pub record AreInPlace (shape : Shape) (world : ReplicaWorld) : Type 0 where
  pub replicas : (v : ℕ) → v < shape.nodes → IsInPlace shape.nodes v (world.replicas v)
  pub messages : (from to : ℕ) → All (IsAddressed shape.nodes from to) (world.mail from to)
