-- What a step of the front or of a node leaves.
use Rattle.std.proofs.Common.{◌≡◌, ℕ, Bool, false, Option, Some, Result, Ok, Err, OnOk, refl, sym, ap, subst, ◌∙◌}
use Rattle.cl_actor.specs.Acting.{ActingState}
use Rattle.cl_front.specs.declared.machine.Front.{Front}
use Rattle.cl_front.specs.Machine.{FrontMachineState, IsFrontMachine, FrontFits, front_after, front_outs, is_front_spent, after_quiet, after_taking}
use Rattle.cl_node.specs.declared.machine.Node.{Node}
use Rattle.cl_node.specs.Machine.{NodeMachineState, IsNodeMachine, NodeFits, node_after, node_outs, is_node_spent}
use Rattle.cl_post.specs.declared.outs.Outs.{Outs}
use Rattle.cl_post.specs.Steps.{Input, IsStep, IsSpentByMark}
use Rattle.cl_steps.specs.declared.actors.TheConstants.{FRONT}
use Rattle.cl_system.specs.System.{Core, quieted_core}
use Rattle.cl_types.specs.declared.answers.Refused.{Refused}
use Rattle.cl_world.specs.Actors.{front_state, node_state, HasFrontState, HasNodeState, IsFrontIn, IsNodeIn, IsFrontStep, IsNodeStep, with_core, without_transcript}
use Rattle.cl_world.specs.Inputs.{acted_core, InputFits, is_input_spent}
use Rattle.cl_world.specs.declared.front_seat.FrontSeat.{FrontSeat}
use Rattle.cl_world.specs.declared.front_seat.FrontSeat.TheVariants.{Here}
use Rattle.cl_world.proofs.Inputs.{acted_front, acted_node, front_fits, node_fits, front_spent, node_spent}

-- the front of a seat has the state of its actor
pub front_of : (seat : FrontSeat) (machine : Front) (before : ActingState Core) → seat ≡ Here machine → IsFrontIn seat before → HasFrontState machine before
front_of seat machine before is here = subst (λ s. IsFrontIn s before) is here

-- what fits the actor fits the front
pub front_may : (seat : FrontSeat) (machine : Front) (before : ActingState Core) (input : Input) → seat ≡ Here machine → IsFrontIn seat before → InputFits FRONT before input →
    (state : FrontMachineState) × IsFrontMachine machine state × FrontFits state input
front_may seat machine before input is here fits =
    let h = front_of seat machine before is here in
    (h.state, h.here, front_fits FRONT h.state input (subst (λ b. InputFits FRONT b input) h.same fits))

-- the front was there and took a step
pub front_stepped : (seat : FrontSeat) (machine after : Front) (before : ActingState Core) (input : Input) (outs : Outs) → seat ≡ Here machine → IsFrontIn seat before →
    ((state : FrontMachineState) → IsFrontMachine machine state → IsStep (IsFrontMachine after) (front_after state input) (front_outs state input) (Ok outs)) →
    IsFrontStep (Here after) before input (Ok outs)
front_stepped seat machine after before input outs is here step =
    let h = front_of seat machine before is here in
    let s = step h.state h.here in
    let e : acted_core FRONT before input outs.short ≡ (front_state (front_after h.state input outs.short), front_outs h.state input outs.short)
    = ap (λ b. acted_core FRONT b input outs.short) h.same ∙ acted_front FRONT h.state input outs.short in
    (record { state = front_after h.state input outs.short; here = s.0; same = ap (λ a. a.0) e }, refl, s.1 ∙ sym (ap (λ a. a.1) e))

-- tests that say the same of each mark say the same of a result
pub spent_alike : (one other : Bool → Bool) (result : Result Outs Refused) → ((mark : Bool) → one mark ≡ other mark) →
    IsSpentByMark one result → IsSpentByMark other result
spent_alike one other (Ok made) alike is = record { unspent = sym (alike made.short) ∙ is.unspent; cause = λ e. sym (alike false) ∙ is.cause e }
spent_alike one other (Err refused) alike is = record { unspent = tt; cause = λ e. sym (alike false) ∙ is.cause e }

-- the front needs the numbers that its actor needs
pub front_spends : (seat : FrontSeat) (machine : Front) (before : ActingState Core) (input : Input) (result : Result Outs Refused) →
    seat ≡ Here machine → IsFrontIn seat before →
    ((state : FrontMachineState) → IsFrontMachine machine state → IsSpentByMark (is_front_spent state input) result) →
    IsSpentByMark (is_input_spent FRONT before input) result
front_spends seat machine before input result is here spent =
    let h = front_of seat machine before is here in
    spent_alike (is_front_spent h.state input) (is_input_spent FRONT before input) result
    (λ mark. sym (ap (λ b. is_input_spent FRONT b input mark) h.same ∙ front_spent FRONT h.state input mark)) (spent h.state h.here)

-- the front noted a quiet moment
pub front_quiets : {A E : Type 0} (seat : FrontSeat) (machine after : Front) (before : ActingState Core) (result : Result A E) → seat ≡ Here machine → IsFrontIn seat before →
    ((state : FrontMachineState) → IsFrontMachine machine state → OnOk result (IsFrontMachine after (after_quiet state))) →
    OnOk result (HasFrontState after (with_core before (quieted_core FRONT before.core)))
front_quiets seat machine after before (Err e) is here quiets = tt
front_quiets seat machine after before (Ok x) is here quiets =
    let h = front_of seat machine before is here in
    record { state = after_quiet h.state; here = quiets h.state h.here; same = ap (λ b. with_core b (quieted_core FRONT b.core)) h.same }

-- the node of a slot has the state of its actor
pub node_of : (slot : Option Node) (machine : Node) (before : ActingState Core) → slot ≡ Some machine → IsNodeIn slot before → HasNodeState machine before
node_of slot machine before is here = subst (λ s. IsNodeIn s before) is here

-- what fits the actor fits the node
pub node_may : (slot : Option Node) (machine : Node) (actor : ℕ) (before : ActingState Core) (input : Input) → slot ≡ Some machine → IsNodeIn slot before → InputFits actor before input →
    (state : NodeMachineState) × IsNodeMachine machine state × NodeFits state input
node_may slot machine actor before input is here fits =
    let h = node_of slot machine before is here in
    (h.state, h.here, node_fits actor h.state input (subst (λ b. InputFits actor b input) h.same fits))

-- the node was there and took a step
pub node_stepped : (slot : Option Node) (machine after : Node) (actor : ℕ) (before : ActingState Core) (input : Input) (outs : Outs) → slot ≡ Some machine → IsNodeIn slot before →
    ((state : NodeMachineState) → IsNodeMachine machine state → IsStep (IsNodeMachine after) (node_after state input) (node_outs state input) (Ok outs)) →
    IsNodeStep (Some after) actor before input (Ok outs)
node_stepped slot machine after actor before input outs is here step =
    let h = node_of slot machine before is here in
    let s = step h.state h.here in
    let e : acted_core actor before input outs.short ≡ (node_state (node_after h.state input outs.short), node_outs h.state input outs.short)
    = ap (λ b. acted_core actor b input outs.short) h.same ∙ acted_node actor h.state input outs.short in
    (record { state = node_after h.state input outs.short; here = s.0; same = ap (λ a. a.0) e }, refl, s.1 ∙ sym (ap (λ a. a.1) e))

-- the node needs the numbers that its actor needs
pub node_spends : (slot : Option Node) (machine : Node) (actor : ℕ) (before : ActingState Core) (input : Input) (result : Result Outs Refused) →
    slot ≡ Some machine → IsNodeIn slot before →
    ((state : NodeMachineState) → IsNodeMachine machine state → IsSpentByMark (is_node_spent state input) result) →
    IsSpentByMark (is_input_spent actor before input) result
node_spends slot machine actor before input result is here spent =
    let h = node_of slot machine before is here in
    spent_alike (is_node_spent h.state input) (is_input_spent actor before input) result
    (λ mark. sym (ap (λ b. is_input_spent actor b input mark) h.same ∙ node_spent actor h.state input mark)) (spent h.state h.here)

-- the transcript of the front is taken
pub front_bared : (seat : FrontSeat) (machine after : Front) (actor : ActingState Core) → seat ≡ Here machine → IsFrontIn seat actor →
    ((state : FrontMachineState) → IsFrontMachine machine state → IsFrontMachine after (after_taking state)) → HasFrontState after (with_core actor (without_transcript actor.core))
front_bared seat machine after actor is here left =
    let h = front_of seat machine actor is here in
    record { state = after_taking h.state; here = left h.state h.here; same = ap (λ b. with_core b (without_transcript b.core)) h.same }
