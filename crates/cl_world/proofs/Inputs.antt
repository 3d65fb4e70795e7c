-- An actor of the system steps as its machine does.
use Rattle.std.proofs.Common.{◌≡◌, ℕ, Bool, true, false, if◌then◌else◌, Option, refl}
use Rattle.cl_actor.specs.Acting.{ActingState, finished}
use Rattle.cl_actor.specs.Core.{CoreStep}
use Rattle.cl_endpoint.specs.Endpoint.{EndpointState, received}
use Rattle.cl_actor.specs.Acting.{is_now}
use Rattle.cl_front.specs.Front.{FrontState}
use Rattle.cl_front.specs.Machine.{FrontMachineState, FrontFits, front_after, front_outs, is_front_spent}
use Rattle.cl_node.specs.Machine.{NodeMachineState, NodeFits, node_after, node_outs, is_node_spent}
use Rattle.cl_node.specs.Node.{NodeState}
use Rattle.cl_post.specs.Steps.{Input, handle, tick, feed, quiet, OutsData}
use Rattle.cl_system.specs.System.{Core, front_step, node_step}
use Rattle.cl_world.specs.Actors.{front_state, node_state}
use Rattle.cl_world.specs.Inputs.{acted_core, InputFits, is_input_spent}

-- a pair of a front's state and what its step gives, as one of an actor
abbrev pub as_front : FrontMachineState × OutsData → ActingState Core × OutsData
as_front acted = (front_state acted.0, acted.1)

-- likewise of a node
abbrev pub as_node : NodeMachineState × OutsData → ActingState Core × OutsData
as_node acted = (node_state acted.0, acted.1)

finished_front : (b : Bool) (x y : CoreStep FrontState) (endpoint : EndpointState) (owed : Option ℕ) →
    finished (if b then front_step x else front_step y) endpoint owed ≡ as_front (finished (if b then x else y) endpoint owed)
finished_front true x y endpoint owed = refl
finished_front false x y endpoint owed = refl

finished_node : (b : Bool) (x y : CoreStep NodeState) (endpoint : EndpointState) (owed : Option ℕ) →
    finished (if b then node_step x else node_step y) endpoint owed ≡ as_node (finished (if b then x else y) endpoint owed)
finished_node true x y endpoint owed = refl
finished_node false x y endpoint owed = refl

-- the step of an actor that is a front
pub acted_front : (actor : ℕ) (state : FrontMachineState) (input : Input) (mark : Bool) →
    acted_core actor (front_state state) input mark ≡ (front_state (front_after state input mark), front_outs state input mark)
acted_front actor state (handle m) mark = finished_front (is_now (received state.endpoint m.from m.seq)) _ _ _ _
acted_front actor state tick mark = refl
acted_front actor state (feed number text said) mark = refl
acted_front actor state quiet mark = refl

-- the step of an actor that is a node
pub acted_node : (actor : ℕ) (state : NodeMachineState) (input : Input) (mark : Bool) →
    acted_core actor (node_state state) input mark ≡ (node_state (node_after state input mark), node_outs state input mark)
acted_node actor state (handle m) mark = finished_node (is_now (received state.endpoint m.from m.seq)) _ _ _ _
acted_node actor state tick mark = refl
acted_node actor state (feed number text said) mark = refl
acted_node actor state quiet mark = refl

-- what fits an actor that is a front fits the front
pub front_fits : (actor : ℕ) (state : FrontMachineState) (input : Input) → InputFits actor (front_state state) input → FrontFits state input
front_fits actor state (handle m) fits = record { sender = fits.sender; core = fits.core; sends = fits.sends }
front_fits actor state tick fits = tt
front_fits actor state (feed number text said) fits = record { core = fits.core; sends = fits.sends }
front_fits actor state quiet fits = tt

-- what fits an actor that is a node fits the node
pub node_fits : (actor : ℕ) (state : NodeMachineState) (input : Input) → InputFits actor (node_state state) input → NodeFits state input
node_fits actor state (handle m) fits = record { sender = fits.sender; core = fits.core; sends = fits.sends }
node_fits actor state tick fits = tt
node_fits actor state (feed number text said) fits = record { core = fits.core; sends = fits.sends }
node_fits actor state quiet fits = tt

-- the same numbers are needed
pub front_spent : (actor : ℕ) (state : FrontMachineState) (input : Input) (mark : Bool) →
    is_input_spent actor (front_state state) input mark ≡ is_front_spent state input mark
front_spent actor state (handle m) mark = refl
front_spent actor state tick mark = refl
front_spent actor state (feed number text said) mark = refl
front_spent actor state quiet mark = refl

-- the same numbers are needed
pub node_spent : (actor : ℕ) (state : NodeMachineState) (input : Input) (mark : Bool) →
    is_input_spent actor (node_state state) input mark ≡ is_node_spent state input mark
node_spent actor state (handle m) mark = refl
node_spent actor state tick mark = refl
node_spent actor state (feed number text said) mark = refl
node_spent actor state quiet mark = refl
