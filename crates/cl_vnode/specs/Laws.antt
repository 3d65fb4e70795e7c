-- The laws of a step.
use Rattle.std.specs.Prelude.{◌≡◌, ℕ, ◌<◌, Bool, false, ◌⊎◌, All}
use Rattle.cl_types.specs.Placement.{IsNodeCount}
use Rattle.cl_repair.specs.declared.mode.Mode.{Mode}
use Rattle.cl_repair.specs.declared.mode.Mode.TheVariants.{Lone, Pair}
use Rattle.cl_steps.specs.declared.actors.TheConstants.{FRONT}
use Rattle.cl_steps.specs.Steps.{AreFewer, receivers}
use Rattle.cl_wire.specs.Message.{Content}
use Rattle.cl_vnode.specs.declared.vnode.Vnode.{Vnode}
use Rattle.cl_vnode.specs.Inputs.{Fits}
use Rattle.cl_vnode.specs.Replica.{ReplicaState, IsReplicaStateOf}
use Rattle.cl_vnode.specs.Standby.{standby_stepped}
use Rattle.cl_vnode.specs.Step.{stepped}

-- each replica has a state
abbrev pub EveryReplicaHasState : Type 0
EveryReplicaHasState = (vnode : Vnode) → (state : ReplicaState) × IsReplicaStateOf vnode state

-- what no step changes: the virtual node, how many nodes there are, and the mode
pub record IsSameReplica (before after : ReplicaState) : Type 0 where
  pub v : after.v ≡ before.v
  pub nodes : after.control.nodes ≡ before.control.nodes
  pub mode : after.modes.mode ≡ before.modes.mode

-- a step of a primary changes none of these
abbrev pub StepsKeepReplica : Type 0
StepsKeepReplica = (primary : ℕ → ℕ) (state : ReplicaState) (from : ℕ) (content : Content) (short : Bool) →
    IsSameReplica state (stepped primary state from content short).state

-- nor does a step of a standby
abbrev pub StandbyStepsKeepReplica : Type 0
StandbyStepsKeepReplica = (state : ReplicaState) (from : ℕ) (content : Content) → IsSameReplica state (standby_stepped state from content).state

-- with the mark, which stands for want of memory, a step of a replica sends to the same actors as without it, or to fewer
abbrev pub MarksAreAlike : Type 0
MarksAreAlike = (vnode : Vnode) (state : ReplicaState) → IsReplicaStateOf vnode state → (primary : ℕ → ℕ) (from : ℕ) (content : Content) (short : Bool) →
    AreFewer (receivers (stepped primary state from content short).step) (receivers (stepped primary state from content false).step)

-- the actor is the standby
abbrev pub IsStandbyIn : Mode → ℕ → Type 0
IsStandbyIn Lone to = ⊥
IsStandbyIn (Pair standby) to = to ≡ standby

-- the sender of the input, the front, the primary of one of so many virtual nodes, or the standby
abbrev pub IsReceiver : ℕ → (ℕ → ℕ) → Mode → ℕ → ℕ → Type 0
IsReceiver nodes primary mode from to = (to ≡ from) ⊎ ((to ≡ FRONT) ⊎ (((v : ℕ) × (v < nodes) × (to ≡ primary v)) ⊎ IsStandbyIn mode to))

-- a step of a primary sends to these alone
abbrev pub StepsSendToReceivers : Type 0
StepsSendToReceivers = (nodes : ℕ) (primary : ℕ → ℕ) (state : ReplicaState) (from : ℕ) (content : Content) (short : Bool) → IsNodeCount nodes → Fits nodes state content →
    All (IsReceiver nodes primary state.modes.mode from) (receivers (stepped primary state from content short).step)

-- a step of a standby sends to the sender of its input alone
abbrev pub StandbyStepsSendBack : Type 0
StandbyStepsSendBack = (state : ReplicaState) (from : ℕ) (content : Content) → All (λ to. to ≡ from) (receivers (standby_stepped state from content).step)
