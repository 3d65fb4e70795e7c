-- What the step of an event gives, by the front, the primaries and the standbys.
use Rattle.std.proofs.Common.{◌≡◌, ◌≢◌, ℕ, ◌+◌, drop, Bool, true, false, eqb, ◌==◌, if◌then◌else◌, inl, inr, List, [], ◌∷◌, All, Option, Some, None, refl, sym, ap, ◌∙◌, subst, subst₂}
use Rattle.std.proofs.lemmas.Bool.{cases_eq, ne_eqb, cond-false}
use Rattle.std.proofs.lemmas.List.Elements.{All-head}
use Rattle.cl_actor.specs.Acting.{noted_in, is_now}
use Rattle.cl_actor.specs.Core.{Noted, CoreStep}
use Rattle.cl_cluster.proofs.Nodes.{pair_moved, delivered_core_of_node}
use Rattle.cl_cluster.specs.Alike.{AreAlike}
use Rattle.cl_endpoint.specs.declared.received.Received.{Received}
use Rattle.cl_endpoint.specs.declared.received.Received.TheVariants.{Dropped, Bare, Now, Old, Gap}
use Rattle.cl_endpoint.specs.Endpoint.{link_to, received}
use Rattle.cl_front.specs.Front.{delivered_front, fed_front}
use Rattle.cl_lines.specs.declared.out.Out.{Out}
use Rattle.cl_pairs.specs.Pairs.{PairWorld, logged_at}
use Rattle.cl_roster.specs.declared.entry.RosterEntry.{RosterEntry}
use Rattle.cl_roster.specs.Roster.{IsClusterSize}
use Rattle.cl_runs.proofs.Events.{IsSound, emitted_faithful}
use Rattle.cl_runs.proofs.QueueEvents.{AcceptsHead, accepts_head, queue_whole}
use Rattle.cl_runs.specs.Laws.{IsFaithful}
use Rattle.cl_runs.specs.Queues.{step_on, step_at, next_entry, core_step, contents_of, Watched, QueueWorld, queue_world_of, QueueEvent, deliver, take_line, event_on, queue_event_of}
use Rattle.cl_runs.specs.World.{Shape, World, endpoints_of, Happening, handle, note, feed, IsEnabledWidely}
use Rattle.cl_seen.specs.Ways.{IsPairAddressed}
use Rattle.cl_steps.specs.Steps.{Step, nothing_done}
use Rattle.cl_steps.specs.declared.actors.TheConstants.{FRONT}
use Rattle.cl_system.specs.Replicas.{nothing_noted, own_primary}
use Rattle.cl_system.specs.System.{Core, delivered_core, fed_core, system}
use Rattle.cl_vnode.specs.Standby.{standby_stepped}
use Rattle.cl_vnode.specs.Step.{stepped}
use Rattle.cl_wire.specs.Message.{Content, Message}

-- what the step of a node gives: a log record comes to its standby, and everything else to the primary
abbrev pub node_step : PairWorld → ℕ → ℕ → Content → Bool → Option ℕ → Step
node_step pairs from to content mark (Some v) = (standby_stepped (pairs.standbys v) from content).step
node_step pairs from to content mark None = (stepped own_primary (pairs.primaries to) from content mark).step

-- what the step on a message gives
abbrev pub message_step : Shape → PairWorld → ℕ → ℕ → Content → Bool → Step
message_step shape pairs from to content mark =
    if to == FRONT then (delivered_front (nothing_noted shape) pairs.front from content mark).step
    else node_step pairs from to content mark (logged_at content)

-- that on the first message on its way
abbrev pub first_step : Shape → PairWorld → ℕ → ℕ → Bool → List Content → Step
first_step shape pairs from to mark [] = nothing_done
first_step shape pairs from to mark (content ∷ rest) = message_step shape pairs from to content mark

-- that in an event
abbrev pub event_step : Shape → PairWorld → QueueEvent → Step
event_step shape pairs (deliver from to mark) = first_step shape pairs from to mark (pairs.mail from to)
event_step shape pairs (take_line number text said) = (fed_front (nothing_noted shape) pairs.front number text said).step
event_step shape pairs other = nothing_done

-- what was noted, by its parts
same_noted : (a b : Noted) → a.nodes ≡ b.nodes → a.spares ≡ b.spares → a.entries ≡ b.entries → a ≡ b
same_noted a b nodes spares entries = λ i. record { nodes = nodes i; spares = spares i; entries = entries i }

-- what is taken now
pub now_from : (kind : Received) → is_now kind ≡ true → kind ≡ Now
now_from Now is = refl
now_from Dropped is = absurd cc
now_from Bare is = absurd cc
now_from Old is = absurd cc
now_from Gap is = absurd cc

-- the system with packets, with queues, and as pairs, at one moment
pub record AreTogether (shape : Shape) (watched : Watched Core) (pairs : PairWorld) : Type 0 where
  pub links : IsSound shape watched
  pub alike : AreAlike shape (queue_world_of watched) pairs
  pub addressed : (from to : ℕ) → All (IsPairAddressed shape.nodes from to) (pairs.mail from to)

module _ (shape : Shape) (size : IsClusterSize shape.nodes shape.spares) (watched : Watched Core) (pairs : PairWorld)
    (is : AreTogether shape watched pairs) where
  -- the system with packets
  abbrev world : World Core
  world = watched.world

  -- the system with queues
  abbrev cores : QueueWorld Core
  cores = queue_world_of watched

  -- nothing of the roster was noted
  pub noted_is : (actor : ℕ) → nothing_noted shape ≡ noted_in (watched.world.actors actor).endpoint
  noted_is actor =
      let shaped = is.links.linked.shaped actor in
      same_noted (nothing_noted shape) (noted_in (world.actors actor).endpoint) (sym shaped.nodes) (sym shaped.spares) (sym (is.alike.noted actor))

  -- the front takes the message
  front_gives : (from to : ℕ) (content : Content) (mark : Bool) → to ≡ FRONT →
      (delivered_core to (nothing_noted shape) (cores.cores to) from content mark).step ≡ message_step shape pairs from to content mark
  front_gives from to content mark here =
      subst (λ n. (delivered_core n (nothing_noted shape) (cores.cores n) from content mark).step ≡ message_step shape pairs from n content mark) (sym here)
      (ap (λ (core : Core). (delivered_core FRONT (nothing_noted shape) core from content mark).step) is.alike.front)

  -- what the pairs' step gives
  moved_gives : (from to : ℕ) (content : Content) (mark : Bool) (log : Option ℕ) →
      (pair_moved shape.nodes pairs from to content mark log).step ≡ node_step pairs from to content mark log
  moved_gives from to content mark (Some v) = refl
  moved_gives from to content mark None = refl

  -- a node takes it
  node_gives : (from to : ℕ) (content : Content) (mark : Bool) → to ≢ FRONT → IsPairAddressed shape.nodes from to content →
      (delivered_core to (nothing_noted shape) (cores.cores to) from content mark).step ≡ node_step pairs from to content mark (logged_at content)
  node_gives from to content mark apart way =
      ap (λ (core : Core). (delivered_core to (nothing_noted shape) core from content mark).step) (is.alike.nodes to apart)
      ∙ ap (λ (after : CoreStep Core). after.step) (delivered_core_of_node shape size.counted pairs from to mark apart content way)
      ∙ moved_gives from to content mark (logged_at content)

  -- the way of a packet that is accepted now begins with its message
  pub head_waits : (me : ℕ) (m : Message) → IsFaithful (endpoints_of watched.world) watched.given m → m.to ≡ me →
      received (watched.world.actors me).endpoint m.from m.seq ≡ Now →
      (rest : List Content) × (pairs.mail m.from me ≡ m.content ∷ rest)
  head_waits me m faithful here now =
      let accepts : AcceptsHead watched.given me (world.actors me).endpoint m = accepts_head shape world watched.given is.links.linked me m faithful here now in
      let rest : List Content = contents_of (drop ((link_to (world.actors me).endpoint m.from).accepted + 1) (watched.given m.from me)) in
      (rest, sym (is.alike.mail m.from me) ∙ (ap contents_of (queue_whole _ accepts.heard ∙ accepts.waits) ∙ ap (λ content. content ∷ rest) accepts.content))

  -- what is accepted now is the first message on its way
  head_gives : (me : ℕ) (m : Message) (mark : Bool) → IsFaithful (endpoints_of watched.world) watched.given m → m.to ≡ me →
      received (watched.world.actors me).endpoint m.from m.seq ≡ Now →
      (delivered_core me (noted_in (watched.world.actors me).endpoint) (watched.world.actors me).core m.from m.content mark).step
      ≡ first_step shape pairs m.from me mark (pairs.mail m.from me)
  head_gives me m mark faithful here now =
      let head = head_waits me m faithful here now in
      let rest : List Content = head.0 in
      let waits : pairs.mail m.from me ≡ m.content ∷ rest = head.1 in
      let way : IsPairAddressed shape.nodes m.from me m.content
      = All-head (IsPairAddressed shape.nodes m.from me) m.content rest (subst (All (IsPairAddressed shape.nodes m.from me)) waits (is.addressed m.from me)) in
      subst (λ list. (delivered_core me (noted_in (world.actors me).endpoint) (world.actors me).core m.from m.content mark).step
      ≡ first_step shape pairs m.from me mark list) (sym waits)
      (subst (λ noted. (delivered_core me noted (world.actors me).core m.from m.content mark).step ≡ message_step shape pairs m.from me m.content mark)
      (noted_is me)
      (elim (cases_eq me FRONT) [
        | inl at_front ↦ front_gives m.from me m.content mark at_front
        | inr apart ↦ node_gives m.from me m.content mark apart way ∙ sym (cond-false (eqb me FRONT) _ _ (ne_eqb me FRONT apart))
      ]))

  -- a packet that was emitted comes to its receiver
  packet_gives : (me : ℕ) (m : Message) (mark : Bool) → IsFaithful (endpoints_of watched.world) watched.given m → m.to ≡ me →
      (step_on (system shape.nodes) (watched.world.actors me) me mark (Some m)).step ≡ event_step shape pairs (event_on watched.world me mark (Some m))
  packet_gives me m mark faithful here = by (is_now (received (world.actors me).endpoint m.from m.seq)) refl
    where
      by : (now : Bool) → is_now (received (world.actors me).endpoint m.from m.seq) ≡ now →
          (step_on (system shape.nodes) (world.actors me) me mark (Some m)).step ≡ event_step shape pairs (event_on world me mark (Some m))
      by true now = rw now (head_gives me m mark faithful here (now_from (received (world.actors me).endpoint m.from m.seq) now))
      by false not_now = rw not_now refl

  -- what the front is fed
  line_gives : (number : ℕ) (text : List ℕ) (said : List Out) →
      (fed_core FRONT (noted_in (watched.world.actors FRONT).endpoint) (watched.world.actors FRONT).core number text said).step ≡
      (fed_front (nothing_noted shape) pairs.front number text said).step
  line_gives number text said =
      subst₂ (λ noted core. (fed_core FRONT noted core number text said).step ≡ (fed_front (nothing_noted shape) pairs.front number text said).step)
      (noted_is FRONT) (sym is.alike.front) refl

  -- an entry that is noted makes nobody give anything
  pub noting_gives : (actor : ℕ) (next : Option RosterEntry) → (step_at (system shape.nodes) (watched.world.actors actor) actor next).step ≡ nothing_done
  noting_gives actor None = refl
  noting_gives actor (Some entry) = refl

  -- what an event gives is what the front, a primary or a standby gives
  pub same_step : (happening : Happening) (mark : Bool) → IsEnabledWidely shape watched.world happening →
      (core_step (system shape.nodes) watched.world happening mark).step ≡ event_step shape pairs (queue_event_of watched.world happening mark)
  unfolding queue_event_of
  same_step (handle actor id) mark may =
      subst (λ (found : Option Message). (step_on (system shape.nodes) (world.actors actor) actor mark found).step ≡ event_step shape pairs
      (event_on world actor mark found)) (sym may.emitted)
      (packet_gives actor may.packet mark (emitted_faithful shape world watched.given id may.packet is.links.linked may.emitted) may.addressed)
  same_step (note actor) mark may = noting_gives actor (next_entry world actor)
  same_step (feed number text said) mark may = line_gives number text said
  same_step other mark may = refl
