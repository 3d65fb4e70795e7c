-- Each event of the system that is not spent keeps all in range.
use Rattle.std.proofs.Common.{◌≡◌, ℕ, ◌+◌, ◌<◌, ◌&&◌, Bool, true, false, cond, eqb, ltb, List, [], ◌∷◌, ◌++◌, All, filter, get_or, refl, sym, subst, arith}
use Rattle.std.proofs.lemmas.Bool.{cond_both, eqb-false}
use Rattle.std.proofs.lemmas.List.Elements.{All-nil, All-head, All-tail, All-append, All-map, All-filter, All-replicate}
use Rattle.cl_actor.specs.Core.{CoreStep}
use Rattle.cl_endpoint.specs.declared.limits.TheConstants.{ACTORS}
use Rattle.cl_endpoint.specs.Laws.{contents_to}
use Rattle.cl_exchange.proofs.Runs.{events_keep_sound}
use Rattle.cl_exchange.specs.Laws.{IsSoundWorld}
use Rattle.cl_fields.specs.Range.{IsVirtualNode}
use Rattle.cl_front.specs.Front.{FrontState, delivered_front, fed_front, is_delivery_spent}
use Rattle.cl_front.specs.Session.{no_session}
use Rattle.cl_lone.specs.Lone.{lone_step}
use Rattle.cl_ranges.proofs.Fronts.{IsUnnumbered, IsFrontStepInRange, no_session_range, line_range, message_range}
use Rattle.cl_ranges.proofs.Numbers.{IsNumbered, mail_numbered}
use Rattle.cl_ranges.proofs.Replicas.{IsStepInRange, first_replica_range, replica_step}
use Rattle.cl_ranges.specs.Laws.{IsUnspentMessage, IsUnspentEvent}
use Rattle.cl_ranges.specs.Ranges.{IsReplicaInRange, IsSessionInRange, IsWorldInRange}
use Rattle.cl_roster.specs.Roster.{IsClusterSize}
use Rattle.cl_runs.specs.Queues.{sent_to, QueueEvent, deliver, take_line, quieten}
use Rattle.cl_runs.specs.World.{Shape}
use Rattle.cl_steps.specs.declared.actors.TheConstants.{FRONT}
use Rattle.cl_steps.specs.declared.steps.Outgoing.{Outgoing}
use Rattle.cl_system.proofs.Places.{receiver_below}
use Rattle.cl_system.specs.Firm.{FirmWorld, happens}
use Rattle.cl_system.specs.Replicas.{ReplicaWorld, Mail, own_primary, nothing_noted, with_mail, with_way, front_acts, replica_acts, after_message, after_first, after_replica_event, first_replica_world, MayReplicas}
use Rattle.cl_system.specs.Roles.{IsAddressed, IsInPlace}
use Rattle.cl_types.proofs.PlacementLaws.{node_count-bounds}
use Rattle.cl_types.specs.declared.limits.TheConstants.{SESSIONS_MAX}
use Rattle.cl_types.specs.Placement.{IsNodeCount}
use Rattle.cl_vnode.specs.Inputs.{is_spent}
use Rattle.cl_vnode.specs.Step.{Stepped}
use Rattle.cl_wire.specs.Message.{Content}
use Rattle.cl_wire.specs.Message as message
use Rattle.cl_wire.specs.Range.{IsContent}

-- at the start all is in range
pub in_range_at_first : (shape : Shape) → IsWorldInRange (first_replica_world shape)
in_range_at_first shape = record {
  sessions = All-replicate IsSessionInRange SESSIONS_MAX no_session no_session_range;
  replicas = λ v. first_replica_range v shape.nodes;
  mail = λ from to. All-nil IsContent;
}

-- what one actor is sent
pub sent_to_all : (P : Content → Type 0) (to : ℕ) (sends : List Outgoing) → All (λ (send : Outgoing). P send.payload) sends → All P (sent_to to sends)
sent_to_all P to sends are =
    cond_both (ltb to ACTORS) (contents_to to sends) [] (All P)
    (λ actor. All-map P (λ (send : Outgoing). send.payload) (filter (λ (send : Outgoing). eqb send.to to) sends)
    (All-filter (λ (send : Outgoing). eqb send.to to) (λ (send : Outgoing). P send.payload) sends are))
    (λ none. All-nil P)

-- what stands behind
pub All-behind : {X : Type 0} (P : X → Type 0) (xs ys : List X) → All P (xs ++ ys) → All P ys
All-behind P [] ys all = all
All-behind P (x ∷ xs) ys all = All-behind P xs ys (All-tail P x (xs ++ ys) all)

abbrev IsMailInRange : Mail → Type 0
IsMailInRange mail = (from to : ℕ) → All IsContent (mail from to)

-- what was sent is on its way
with_mail_range : (mail : Mail) (giver : ℕ) (sends : List Outgoing) → IsMailInRange mail → ((to : ℕ) → All IsContent (sent_to to sends)) → IsMailInRange (with_mail mail giver sends)
with_mail_range mail giver sends are new from to =
    cond_both (eqb from giver) (mail from to ++ sent_to to sends) (mail from to) (All IsContent)
    (λ here. All-append IsContent (mail from to) (sent_to to sends) (are from to) (new to)) (λ elsewhere. are from to)

-- one message was taken off
with_way_range : (mail : Mail) (from to : ℕ) (contents : List Content) → IsMailInRange mail → All IsContent contents → IsMailInRange (with_way mail from to contents)
with_way_range mail from to contents are new giver receiver =
    cond_both (eqb receiver to && eqb giver from) contents (mail giver receiver) (All IsContent) (λ here. new) (λ elsewhere. are giver receiver)

-- a command with a number in range
numbered_range : (content : Content) → IsUnnumbered content → IsNumbered content → IsContent content
numbered_range (message.Command v txn number asked) (within, named, is) numbered = (within, named, numbered, is)
numbered_range message.Bare is numbered = absurd is
numbered_range (message.Outcome txn number outcome) is numbered = absurd is
numbered_range (message.Ask v txn number table key op) is numbered = absurd is
numbered_range (message.Answer v txn number answer) is numbered = absurd is
numbered_range (message.Prepare v txn) is numbered = absurd is
numbered_range (message.Vote v txn) is numbered = absurd is
numbered_range (message.Finish v txn commit) is numbered = absurd is
numbered_range (message.Inquire v txn) is numbered = absurd is
numbered_range (message.Decision v txn commit) is numbered = absurd is
numbered_range (message.Log v number entry) is numbered = absurd is
numbered_range (message.LogAck v number) is numbered = absurd is
numbered_range (message.Repair v node) is numbered = absurd is
numbered_range (message.Records v index records) is numbered = absurd is
numbered_range (message.Names v index last low txns) is numbered = absurd is
numbered_range (message.CopyAck v index) is numbered = absurd is

-- the front has taken a step, after which each command on its way is numbered
front_range : (world : ReplicaWorld) (step : CoreStep FrontState) → IsWorldInRange world → IsFrontStepInRange step → ((to : ℕ) → All IsNumbered ((front_acts world step).mail FRONT to)) → IsWorldInRange (front_acts world step)
front_range world step are is numbered = record {
  sessions = is.sessions;
  replicas = are.replicas;
  mail = with_mail_range world.mail FRONT step.step.sends are.mail
      (λ to k d within. numbered_range (get_or (sent_to to step.step.sends) k d) (sent_to_all IsUnnumbered to step.step.sends is.sends k d within)
      (All-behind IsNumbered (world.mail FRONT to) (sent_to to step.step.sends) (numbered to) k d within));
}

-- a replica has
replica_range : (world : ReplicaWorld) (v : ℕ) (stepped : Stepped) → IsWorldInRange world → IsStepInRange stepped → IsWorldInRange (replica_acts world v stepped)
replica_range world v stepped are is = record {
  sessions = are.sessions;
  replicas = λ other. cond_both (eqb other v) stepped.state (world.replicas other) IsReplicaInRange (λ here. is.state) (λ elsewhere. are.replicas other);
  mail = with_mail_range world.mail v stepped.step.sends are.mail (λ to. sent_to_all IsContent to stepped.step.sends is.sends);
}

-- a message that comes to the front, in a step that is not spent
front_unspent : (shape : Shape) (world : ReplicaWorld) (from to : ℕ) (content : Content) → IsUnspentMessage shape world from to content →
    eqb to FRONT ≡ true → is_delivery_spent (nothing_noted shape) world.front from content ≡ false
front_unspent shape world from to content unspent here = rw here at unspent

-- one that comes to a replica
replica_unspent : (shape : Shape) (world : ReplicaWorld) (from to : ℕ) (content : Content) → IsUnspentMessage shape world from to content →
    eqb to FRONT ≡ false → is_spent (world.replicas to) content ≡ false
replica_unspent shape world from to content unspent away = rw away at unspent

module _ (shape : Shape) (counted : IsNodeCount shape.nodes) where
  -- the replica of a virtual node takes a message
  node_range : (world : ReplicaWorld) (from to : ℕ) (content : Content) (mark : Bool) → to < shape.nodes → IsInPlace shape.nodes to (world.replicas to) → IsReplicaInRange (world.replicas to) → IsContent content →
      is_spent (world.replicas to) content ≡ false → IsStepInRange (lone_step own_primary (world.replicas to) from content mark)
  node_range world from to content mark below place range is unspent =
      let few = node_count-bounds shape.nodes counted in
      let own : IsVirtualNode (world.replicas to).v = (let same = place.own in omega (arith, same, few.1)) in
      replica_step (world.replicas to) from (subst IsNodeCount (sym place.same_nodes) counted) own range content mark is unspent

  -- a message comes to the front, or to a replica
  message_keeps : (world : ReplicaWorld) (from to : ℕ) (content : Content) (mark : Bool) → IsWorldInRange world → IsContent content → IsAddressed shape.nodes from to content →
      ((v : ℕ) → v < shape.nodes → IsInPlace shape.nodes v (world.replicas v)) →
      (eqb to FRONT ≡ true → is_delivery_spent (nothing_noted shape) world.front from content ≡ false) →
      (eqb to FRONT ≡ false → is_spent (world.replicas to) content ≡ false) →
      ((n : ℕ) → All IsNumbered ((after_message shape world from to content mark).mail FRONT n)) → IsWorldInRange (after_message shape world from to content mark)
  message_keeps world from to content mark are is way places front_is replica_is =
      elim (eqb to FRONT) as (λ b. (eqb to FRONT ≡ b) → ((n : ℕ) → All IsNumbered ((cond b (front_acts world (delivered_front (nothing_noted shape) world.front from content mark))
      (replica_acts world to (lone_step own_primary (world.replicas to) from content mark))).mail FRONT n)) → IsWorldInRange (cond b (front_acts world (delivered_front (nothing_noted shape) world.front from content mark))
      (replica_acts world to (lone_step own_primary (world.replicas to) from content mark)))) [
        | true ↦ λ here numbered. front_range world _ are (message_range shape counted world.front from content mark are.sessions (front_is here)) numbered
        | false ↦ λ elsewhere numbered.
            (let below : to < shape.nodes = receiver_below shape.nodes from to content counted (eqb-false to FRONT elsewhere) way in
            replica_range world to _ are (node_range world from to content mark below (places to below) (are.replicas to) is (replica_is elsewhere)))
      ]
      refl

  -- the first message on its way
  first_keeps : (world : ReplicaWorld) (from to : ℕ) (mark : Bool) (contents : List Content) → world.mail from to ≡ contents → IsSoundWorld shape world → IsWorldInRange world →
      ((content : Content) (rest : List Content) → world.mail from to ≡ content ∷ rest → IsUnspentMessage shape world from to content) →
      ((n : ℕ) → All IsNumbered ((after_first shape world from to mark contents).mail FRONT n)) → IsWorldInRange (after_first shape world from to mark contents)
  first_keeps world from to mark [] waits sound are unspent numbered = are
  first_keeps world from to mark (content ∷ rest) waits sound are unspent numbered =
      let all : All IsContent (content ∷ rest) = subst (All IsContent) waits (are.mail from to) in
      let ways : All (IsAddressed shape.nodes from to) (content ∷ rest) = subst (All (IsAddressed shape.nodes from to)) waits (sound.places.messages from to) in
      let popped : ReplicaWorld = record world { mail = with_way world.mail from to rest } in
      let popped_are : IsWorldInRange popped = record { sessions = are.sessions; replicas = are.replicas; mail = with_way_range world.mail from to rest are.mail (All-tail IsContent content rest all) } in
      message_keeps popped from to content mark popped_are (All-head IsContent content rest all) (All-head (IsAddressed shape.nodes from to) content rest ways) sound.places.replicas
      (front_unspent shape world from to content (unspent content rest waits))
      (replica_unspent shape world from to content (unspent content rest waits)) numbered

-- an event, after which each command on its way is numbered
event_keeps : (shape : Shape) (state : FirmWorld) (event : QueueEvent) → IsClusterSize shape.nodes shape.spares → IsSoundWorld shape state.world →
    IsWorldInRange state.world → IsUnspentEvent shape state (happens event) →
    ((n : ℕ) → All IsNumbered ((after_replica_event shape state.world event).mail FRONT n)) →
    IsWorldInRange (after_replica_event shape state.world event)
unfolding after_replica_event
event_keeps shape state (deliver from to mark) size sound are unspent numbered =
    first_keeps shape size.counted state.world from to mark (state.world.mail from to) refl sound are unspent numbered
event_keeps shape state (take_line number text said) size sound are unspent numbered =
    let world : ReplicaWorld = state.world in
    front_range (record world { lines = world.lines + 1 }) (fed_front (nothing_noted shape) world.front number text said)
    (record { sessions = are.sessions; replicas = are.replicas; mail = are.mail }) (line_range shape size.counted world.front number text said are.sessions unspent) numbered
event_keeps shape state quieten size sound are unspent numbered = record { sessions = are.sessions; replicas = are.replicas; mail = are.mail }
event_keeps shape state other size sound are unspent numbered = are

-- an event of the system that may happen, and is not spent, keeps all in range
pub events_keep_range : (shape : Shape) (state : FirmWorld) (event : QueueEvent) → IsClusterSize shape.nodes shape.spares → IsSoundWorld shape state.world →
    IsWorldInRange state.world → MayReplicas state.world event → IsUnspentEvent shape state (happens event) →
    IsWorldInRange (after_replica_event shape state.world event)
events_keep_range shape state event size sound are may unspent =
    event_keeps shape state event size sound are unspent
    (mail_numbered shape (after_replica_event shape state.world event) (events_keep_sound shape state.world event size sound may))
