-- The laws of a primary without a standby.
use Rattle.std.specs.Prelude.{◌≡◌, ℕ, Bool}
use Rattle.cl_types.specs.Placement.{IsNodeCount}
use Rattle.cl_vnode.specs.Inputs.{Fits}
use Rattle.cl_vnode.specs.Replica.{ReplicaState, first_replica}
use Rattle.cl_vnode.specs.Step.{stepped}
use Rattle.cl_wire.specs.Message.{Content}
use Rattle.cl_lone.specs.Calm.{IsCalm}
use Rattle.cl_lone.specs.Lone.{lone_step}

-- at the start a primary is calm
abbrev pub FirstIsCalm : Type 0
FirstIsCalm = (v nodes : ℕ) → IsNodeCount nodes → IsCalm (first_replica v nodes)

-- a calm primary takes a message that fits in one step of this form
abbrev pub CalmStepsAreLone : Type 0
CalmStepsAreLone = (primary : ℕ → ℕ) (nodes : ℕ) (state : ReplicaState) (from : ℕ) (content : Content) (mark : Bool) → IsCalm state → Fits nodes state content →
    stepped primary state from content mark ≡ lone_step primary state from content mark

-- and is calm after it
abbrev pub StepsStayCalm : Type 0
StepsStayCalm = (primary : ℕ → ℕ) (nodes : ℕ) (state : ReplicaState) (from : ℕ) (content : Content) (mark : Bool) → IsCalm state → Fits nodes state content →
    IsCalm (lone_step primary state from content mark).state
