-- What holds of every run of the system: what a step gives is small, and in the ranges of the wire format.
use Rattle.std.specs.Prelude.{◌≡◌, ℕ, ◌≤◌, ◌==◌, Bool, true, false, List, ◌∷◌, length, All}
use Rattle.cl_front.specs.Front as at_front
use Rattle.cl_ranges.specs.Ranges.{IsWorldInRange}
use Rattle.cl_ranges.specs.Spent.{IsUnspentRun}
use Rattle.cl_ranges.specs.declared.limits.TheConstants.{FIRM_MAX}
use Rattle.cl_roster.specs.Roster.{IsClusterSize}
use Rattle.cl_runs.specs.Queues.{core_step, watched_after, deliver, take_line}
use Rattle.cl_runs.specs.World.{Shape, Happening, Run, EachMayHappen, world_after, IsEnabledWidely, IsWideRun}
use Rattle.cl_steps.specs.declared.actors.TheConstants.{FRONT}
use Rattle.cl_system.specs.Firm.{FirmWorld, FirmEvent, happens, after_firm_event, first_firm_world, firm_world_after, IsFirmRun}
use Rattle.cl_system.specs.Replicas.{ReplicaWorld, nothing_noted}
use Rattle.cl_system.specs.System.{system}
use Rattle.cl_vnode.specs.Inputs.{is_spent}
use Rattle.cl_wire.specs.Message.{Content}
use Rattle.cl_wire.specs.Range.{IsContent, IsInRange}

-- each event that may happen after a wide run makes few transactions firm
abbrev pub FewBecomeFirm : Type 0
FewBecomeFirm = (shape : Shape) (run : Run) (happening : Happening) (mark : Bool) → IsClusterSize shape.nodes shape.spares → IsWideRun (system shape.nodes) shape run →
    IsEnabledWidely shape (world_after (system shape.nodes) shape run) happening →
    length (core_step (system shape.nodes) (world_after (system shape.nodes) shape run) happening mark).step.firm ≤ FIRM_MAX

-- a message comes to a step that needs no number above its limit, of the front or of a replica
abbrev pub IsUnspentMessage : Shape → ReplicaWorld → ℕ → ℕ → Content → Type 0
IsUnspentMessage shape world from to content = IsUnspentAt (to == FRONT) where
  IsUnspentAt : Bool → Type 0
  IsUnspentAt true = at_front.is_delivery_spent (nothing_noted shape) world.front from content ≡ false
  IsUnspentAt false = is_spent (world.replicas to) content ≡ false

-- the step of an event of the firm system, if there is one, needs no number above its limit
abbrev pub IsUnspentEvent : Shape → FirmWorld → FirmEvent → Type 0
IsUnspentEvent shape state (happens (deliver from to mark)) =
    (content : Content) (rest : List Content) → state.world.mail from to ≡ content ∷ rest → IsUnspentMessage shape state.world from to content
IsUnspentEvent shape state (happens (take_line number text said)) = at_front.is_line_spent (nothing_noted shape) state.world.front number text said ≡ false
IsUnspentEvent shape state event = Unit {0}

-- so does none of these events, each in its turn
abbrev pub AreUnspent : Shape → List FirmEvent → Type 0
AreUnspent shape events = EachMayHappen (IsUnspentEvent shape) (after_firm_event shape) events (first_firm_world shape)

-- after each firm run of which no step is spent all is in range
abbrev pub FirmRunsAreInRange : Type 0
FirmRunsAreInRange = (shape : Shape) (events : List FirmEvent) → IsClusterSize shape.nodes shape.spares → IsFirmRun shape events → AreUnspent shape events →
    IsWorldInRange (firm_world_after shape events).world

-- whatever was given to a link in a run of which no step is spent is in range
abbrev pub GivenIsInRange : Type 0
GivenIsInRange = (shape : Shape) (run : Run) (from to : ℕ) → IsClusterSize shape.nodes shape.spares → IsWideRun (system shape.nodes) shape run → IsUnspentRun shape run →
    All (λ message. IsContent message.content) ((watched_after (system shape.nodes) shape run).given from to)

-- so each packet of a run of which no step is spent is in range of the wire format
abbrev pub PacketsAreInRange : Type 0
PacketsAreInRange = (shape : Shape) (run : Run) → IsClusterSize shape.nodes shape.spares → IsWideRun (system shape.nodes) shape run → IsUnspentRun shape run →
    All IsInRange (world_after (system shape.nodes) shape run).packets
