-- What a step of one actor leaves of all.
use Rattle.std.proofs.Common.{◌≡◌, ℕ, ◌+◌, ◌<◌, ◌≢◌, List, [], ◌∷◌, ◌++◌, length, get_or, set, Option, Some, None, Result, Ok, Err, IsSome, inl, inr, refl, sym, ap, subst, ◌∙◌, arith, cond}
use Rattle.std.specs.Vec.{with_item}
use Rattle.std.proofs.lemmas.Bool.{cases_eq, ne_eqb}
use Rattle.std.proofs.lemmas.List.{get_or-set_other, get_or-set_same, length-set, length-append, get_or_append_left}
use Rattle.std.proofs.Math.Seq.{get_or-append_seam}
use Rattle.cl_actor.specs.Acting.{ActingState}
use Rattle.cl_node.specs.declared.machine.Node.{Node}
use Rattle.cl_node.specs.Machine.{IsNodeMachine, first_machine}
use Rattle.cl_post.specs.declared.outs.Outs.{Outs}
use Rattle.cl_post.specs.Steps.{Input}
use Rattle.cl_roster.specs.Roster.{IsClusterSize}
use Rattle.cl_runs.specs.World.{Shape, with_at}
use Rattle.cl_runs.proofs.Updates.{with_at-here}
use Rattle.cl_steps.specs.declared.actors.TheConstants.{FRONT}
use Rattle.cl_system.specs.System.{Core, front, node}
use Rattle.cl_front.specs.Front.{new_front}
use Rattle.cl_node.specs.Node.{first_node}
use Rattle.cl_endpoint.specs.Endpoint.{new_endpoint}
use Rattle.cl_types.proofs.PlacementLaws.{node_count-bounds}
use Rattle.cl_types.specs.declared.answers.Refused.{Refused}
use Rattle.cl_world.specs.Actors.{States, IsFrontIn, IsNodeIn, IsFrontStep, IsNodeStep, AreFirstMembers, first_states, node_state, MayAct, IsActorStep, member_at}
use Rattle.cl_world.specs.Inputs.{acted_core, InputFits}
use Rattle.cl_world.specs.declared.actors.Actors.{Actors}
use Rattle.cl_world.specs.declared.front_seat.FrontSeat.{FrontSeat}

-- nodes and spares have lower numbers than the front
pub below_front : (shape : Shape) (actor : ℕ) → IsClusterSize shape.nodes shape.spares → actor < shape.nodes + shape.spares → actor < FRONT
below_front shape actor size lives = omega (arith, node_count-bounds shape.nodes size.counted, size.few_spares)

-- another value elsewhere
pub with_at-elsewhere : {A : Type 0} (f : ℕ → A) (number : ℕ) (value : A) (other : ℕ) → other ≢ number → with_at f number value other ≡ f other
with_at-elsewhere f number value other ne = ap (λ here. cond here value (f other)) (ne_eqb other number ne)

-- a living actor that is not the front is a node or a spare
pub is_member : (shape : Shape) (actors : Actors) (states : States) (actor : ℕ) (input : Input) → MayAct shape actors states actor input → actor ≢ FRONT → actor < shape.nodes + shape.spares
is_member shape actors states actor input may ne = elim may.lives [ inl here ↦ absurd (ne here) | inr lives ↦ lives.0 ]

-- its place is within the list
pub member_bound : (shape : Shape) (actors : Actors) (states : States) (actor : ℕ) (input : Input) → MayAct shape actors states actor input → actor ≢ FRONT → actor < length actors.members.items
member_bound shape actors states actor input may ne = omega (arith, is_member shape actors states actor input may ne, may.before.counted)

-- its node is there
pub member_there : (shape : Shape) (actors : Actors) (states : States) (actor : ℕ) (input : Input) → MayAct shape actors states actor input → actor ≢ FRONT → IsSome (member_at actors actor)
member_there shape actors states actor input may ne = may.there.members actor (is_member shape actors states actor input may ne)

-- with the state of its actor
pub member_in : (shape : Shape) (actors : Actors) (states : States) (actor : ℕ) (input : Input) → MayAct shape actors states actor input → actor ≢ FRONT → IsNodeIn (member_at actors actor) (states actor)
member_in shape actors states actor input may ne = may.before.members actor (is_member shape actors states actor input may ne)

-- the front has the state of its actor, and what fits that fits it
pub front_fitting : (shape : Shape) (actors : Actors) (states : States) (actor : ℕ) (input : Input) → MayAct shape actors states actor input → actor ≡ FRONT →
    (before : ActingState Core) × IsFrontIn actors.front before × InputFits FRONT before input
front_fitting shape actors states actor input may here = (states FRONT, may.before.front, subst (λ a. InputFits a (states a) input) here may.fits)

-- the front took a step
pub moved_front : (shape : Shape) (actors : Actors) (seat : FrontSeat) (states : States) (actor : ℕ) (input : Input) (result : Result Outs Refused) → actor ≡ FRONT → MayAct shape actors states actor input →
    IsFrontStep seat (states FRONT) input result → IsActorStep shape (record { front = seat; members = actors.members }) states actor input result
moved_front shape actors seat states actor input (Ok outs) here may stepped =
    let value : ActingState Core = (acted_core actor (states actor) input outs.short).0 in
    let v : (acted_core FRONT (states FRONT) input outs.short).0 ≡ value = ap (λ a. (acted_core a (states a) input outs.short).0) (sym here) in
    let w : with_at states actor value FRONT ≡ value = subst (λ a. with_at states a value FRONT ≡ value) (sym here) (with_at-here states FRONT value) in
    record {
      after = record {
        front = subst (λ a. IsFrontIn seat a) (v ∙ sym w) stepped.0;
        counted = may.before.counted;
        members = λ k within.
            let ne : k ≢ actor = λ e. absurd (omega (arith, below_front shape k may.size within, e, here)) in
            subst (λ a. IsNodeIn (member_at actors k) a) (sym (with_at-elsewhere states actor value k ne)) (may.before.members k within);
      };
      there = record { front = stepped.1; members = may.there.members };
      given = stepped.2 ∙ ap (λ a. (acted_core a (states a) input outs.short).1) (sym here);
    }
moved_front shape actors seat states actor input (Err refused) here may stepped = record {
  same = record { front = stepped; counted = may.before.counted; members = may.before.members };
  there = record { front = λ ne. absurd (ne here); members = λ k within ne. may.there.members k within };
}

-- one slot has another node, or none
pub slots_with : (items : List (Option Node)) (actor : ℕ) (slot : Option Node) (count : ℕ) (Fits : ℕ → Option Node → Type 0) → length items ≡ count → actor < count → Fits actor slot →
    ((k : ℕ) → k < count → k ≢ actor → Fits k (get_or items k None)) → (k : ℕ) → k < count → Fits k (get_or (set items actor slot) k None)
slots_with items actor slot count Fits counted inside here others k within =
    elim (cases_eq k actor) [
      | inl same ↦ let lt : actor < length items = omega arith in
          subst (λ n. Fits n (get_or (set items actor slot) n None)) (sym same) (subst (λ s. Fits actor s) (sym (get_or-set_same items actor slot None lt)) here)
      | inr ne ↦ subst (λ s. Fits k s) (sym (get_or-set_other items actor k slot None ne)) (others k within ne)
    ]

-- a node took a step
pub moved_node : (shape : Shape) (actors : Actors) (slot : Option Node) (states : States) (actor : ℕ) (input : Input) (result : Result Outs Refused) → actor ≢ FRONT → MayAct shape actors states actor input →
    IsNodeStep slot actor (states actor) input result → IsActorStep shape (record { front = actors.front; members = with_item actors.members actor slot }) states actor input result
moved_node shape actors slot states actor input (Ok outs) ne may stepped =
    let value : ActingState Core = (acted_core actor (states actor) input outs.short).0 in
    let inside : actor < shape.nodes + shape.spares = is_member shape actors states actor input may ne in
    let elsewhere : FRONT ≢ actor = λ e. ne (sym e) in
    record {
      after = record {
        front = subst (λ a. IsFrontIn actors.front a) (sym (with_at-elsewhere states actor value FRONT elsewhere)) may.before.front;
        counted = length-set actors.members.items actor slot ∙ may.before.counted;
        members = slots_with actors.members.items actor slot (shape.nodes + shape.spares) (λ k s. IsNodeIn s (with_at states actor value k)) may.before.counted inside
            (subst (λ a. IsNodeIn slot a) (sym (with_at-here states actor value)) stepped.0)
            (λ k within other. subst (λ a. IsNodeIn (member_at actors k) a) (sym (with_at-elsewhere states actor value k other)) (may.before.members k within));
      };
      there = record {
        front = may.there.front;
        members = slots_with actors.members.items actor slot (shape.nodes + shape.spares) (λ k s. IsSome s) may.before.counted inside stepped.1 (λ k within other. may.there.members k within);
      };
      given = stepped.2;
    }
moved_node shape actors slot states actor input (Err refused) ne may stepped =
    let inside : actor < shape.nodes + shape.spares = is_member shape actors states actor input may ne in
    record {
      same = record {
        front = may.before.front;
        counted = length-set actors.members.items actor slot ∙ may.before.counted;
        members = slots_with actors.members.items actor slot (shape.nodes + shape.spares) (λ k s. IsNodeIn s (states k)) may.before.counted inside
            (subst (λ s. IsNodeIn s (states actor)) (sym stepped) tt) (λ k within other. may.before.members k within);
      };
      there = record {
        front = λ other. may.there.front;
        members = slots_with actors.members.items actor slot (shape.nodes + shape.spares) (λ k s. actor ≢ k → IsSome s) may.before.counted inside
            (λ other. absurd (other refl)) (λ k within other apart. may.there.members k within);
      };
    }

-- a node at the start, as one of the actors
abbrev pub node_first : ℕ → ℕ → ℕ → ActingState Core
node_first nodes spares actor = node_state (first_machine nodes spares actor)

first_node_state : (nodes spares actor : ℕ) → actor < FRONT → first_states nodes spares actor ≡ node_first nodes spares actor
first_node_state nodes spares actor below =
    let ne : actor ≡ FRONT → ⊥ = λ e. absurd (omega arith) in
    ap (λ b. record { core = cond b (front new_front) (node (first_node nodes actor)); endpoint = new_endpoint actor nodes spares }) (ne_eqb actor FRONT ne)

-- one node more at the start
pub first_more : (nodes spares count : ℕ) (members : List (Option Node)) (machine : Node) → AreFirstMembers nodes spares count members → count < FRONT → IsNodeMachine machine (first_machine nodes spares count) →
    AreFirstMembers nodes spares (count + 1) (members ++ Some machine ∷ [])
first_more nodes spares count members machine before below is =
    let last : get_or (members ++ Some machine ∷ []) count None ≡ Some machine = subst (λ n. get_or (members ++ Some machine ∷ []) n None ≡ Some machine) before.counted (get_or-append_seam members (Some machine) [] None) in
    let core : first_states nodes spares count ≡ node_first nodes spares count = first_node_state nodes spares count below in
    let each : (Fits : ℕ → Option Node → Type 0) → Fits count (Some machine) → ((k : ℕ) → k < count → Fits k (get_or members k None)) → (k : ℕ) → k < count + 1 → Fits k (get_or (members ++ Some machine ∷ []) k None)
    = λ Fits here others k within. elim (cases_eq k count) [
      | inl same ↦ subst (λ n. Fits n (get_or (members ++ Some machine ∷ []) n None)) (sym same) (subst (λ s. Fits count s) (sym last) here)
      | inr ne ↦ let lt : k < count = omega arith in
          let inside : k < length members = omega (arith, lt, before.counted) in
          subst (λ s. Fits k s) (sym (get_or_append_left members (Some machine ∷ []) None k inside)) (others k lt)
    ] in
    record {
      counted = length-append members (Some machine ∷ []) ∙ ap (λ n. n + 1) before.counted;
      each = each (λ k s. IsNodeIn s (first_states nodes spares k)) (record { state = first_machine nodes spares count; here = is; same = core }) before.each;
      there = each (λ k s. IsSome s) refl before.there;
    }
