-- A replica of a virtual node as plain data.
use Rattle.std.specs.Prelude.{◌≡◌, ℕ, ◌-◌, Bool, false, List, [], Option, None}
use Rattle.cl_types.specs.declared.operations.TxnId.{TxnId}
use Rattle.cl_control.specs.State.{ControlState, new_control}
use Rattle.cl_part.specs.State.{State, IsStateOf, new_state}
use Rattle.cl_repair.specs.declared.mode.Mode.{Mode}
use Rattle.cl_repair.specs.declared.mode.Mode.TheVariants.{Lone, Pair}
use Rattle.cl_repair.specs.Modes.{ModesState, new_modes, safe_in}
use Rattle.cl_vnode.specs.declared.vnode.Vnode.{Vnode}

-- a replica: which virtual node it is of, its participant, its controller, how it makes its log safe, and the decisions that it keeps
pub record ReplicaState : Type 0 where
  pub v : ℕ
  pub part : State
  pub control : ControlState
  pub modes : ModesState
  pub decisions : List TxnId

-- the replica has this state
pub record IsReplicaStateOf (vnode : Vnode) (state : ReplicaState) : Type 0 where
  pub v : vnode.v ≡ state.v
  pub part : IsStateOf vnode.part state.part
  pub control : vnode.control ≡ state.control
  pub modes : vnode.modes ≡ state.modes
  pub decisions : vnode.decisions ≡ state.decisions

-- a new replica of a virtual node, with this standby where there is one: nothing is stored, locked or logged, no transaction is open, and none is decided
abbrev pub new_replica : ℕ → ℕ → Option ℕ → ReplicaState
new_replica v nodes standby = record { v = v; part = new_state 1; control = new_control nodes; modes = new_modes v standby; decisions = [] }

-- the first replica of a virtual node, without a standby
abbrev pub first_replica : ℕ → ℕ → ReplicaState
first_replica v nodes = new_replica v nodes None

-- up to which number the replica's log is safe
abbrev pub safe_number : ReplicaState → ℕ
safe_number state = safe_in state.modes.mode state.modes.acked (state.part.next - 1)

-- a mode in which something outlasts a step: neither is one
abbrev pub is_lasting : Mode → Bool
is_lasting Lone = false
is_lasting (Pair standby) = false

-- a rollback, an inquiry or a repair is under way between two steps
abbrev pub is_busy : ReplicaState → Bool
is_busy state = is_lasting state.modes.mode
