-- What may happen in a run fits the actor to which it comes.
use Rattle.std.proofs.Common.{◌≡◌, ◌≢◌, ℕ, ◌+◌, ◌<◌, false, eqb, inl, inr, List, ◌∷◌, All, Contains, Some, sym, ap, ◌∙◌, subst, subst₂}
use Rattle.std.proofs.lemmas.Bool.{cases_eq, ne_eqb}
use Rattle.std.proofs.lemmas.List.Elements.{All-head}
use Rattle.cl_actor.specs.Acting.{noted_in, HandlingFits, FeedingFits, SendsToActors}
use Rattle.cl_actor.specs.Core.{Noted}
use Rattle.cl_actor.specs.Laws.{IsLawfullyNoted}
use Rattle.cl_endpoint.specs.declared.limits.TheConstants.{ACTORS}
use Rattle.cl_endpoint.specs.declared.received.Received.TheVariants.{Now}
use Rattle.cl_endpoint.specs.Endpoint.{received}
use Rattle.cl_front.proofs.Sends.{line_goes, message_goes}
use Rattle.cl_lines.specs.declared.out.Out.{Out}
use Rattle.cl_node.proofs.Sends.{node_sends}
use Rattle.cl_node.specs.Addressing.{addressed}
use Rattle.cl_node.specs.Members.{backed_up}
use Rattle.cl_node.specs.Node.{NodeState, replica_at, replica_for, DeliveryFits}
use Rattle.cl_pairs.specs.Pairs.{PairWorld, logged_at, FitsReplica, PairMessageFits}
use Rattle.cl_roster.proofs.Lawful.{IsLawfulRoster-none}
use Rattle.cl_roster.specs.Roster.{IsClusterSize}
use Rattle.cl_runs.proofs.Runs.{endpoints_are_shaped, accepted_is_head, watching_leaves_world}
use Rattle.cl_runs.specs.Laws.{IsHead}
use Rattle.cl_runs.specs.Queues.{contents_of, deliver, take_line, watched_after, QueueWorld, queue_world_of}
use Rattle.cl_runs.specs.World.{Shape, World, Run, MayFeed, world_after, IsWideRun}
use Rattle.cl_seen.specs.Laws.{PairInputsFit, PairMessagesAreAddressed}
use Rattle.cl_seen.specs.Ways.{IsPairAddressed}
use Rattle.cl_steps.specs.declared.actors.TheConstants.{FRONT}
use Rattle.cl_system.specs.Replicas.{nothing_noted}
use Rattle.cl_system.specs.System.{Core, delivered_core, fed_core, system}
use Rattle.cl_types.specs.Placement.{IsNodeCount}
use Rattle.cl_wire.specs.Message.{Content, Message, Log, LogAck}
use Rattle.cl_cluster.proofs.Members.{backed_up-standby}
use Rattle.cl_cluster.proofs.Nodes.{addressed_to, pair_receiver_below, node_with, primary_in_slot, standby_in_slot, node_here}
use Rattle.cl_cluster.specs.Alike.{pair_events_of, pairs_after}
use Rattle.cl_cluster.specs.Fitting.{CoreDeliveryFits, CoreLineFits}
use Rattle.cl_cluster.specs.Laws.{IsPairRunOf}

-- what was noted, by its parts
same_noted : (a b : Noted) → a.nodes ≡ b.nodes → a.spares ≡ b.spares → a.entries ≡ b.entries → a ≡ b
same_noted a b nodes spares entries = λ i. record { nodes = nodes i; spares = spares i; entries = entries i }

-- a message fits a core, which sends to actors alone
record IsTaken (to : ℕ) (noted : Noted) (core : Core) (from : ℕ) (content : Content) : Type 0 where
  fits : CoreDeliveryFits noted core from content
  sends : SendsToActors (delivered_core to noted core from content false)

-- so does a line
record IsFed (noted : Noted) (core : Core) (number : ℕ) (text : List ℕ) (said : List Out) : Type 0 where
  fits : CoreLineFits noted core number text said
  sends : SendsToActors (fed_core FRONT noted core number text said)

module _ (shape : Shape) (pairs : PairWorld) (from to : ℕ) (counted : IsNodeCount shape.nodes) (below : to < shape.nodes) where
  -- the node with its two replicas
  abbrev here : NodeState
  here = node_with shape.nodes to (pairs.primaries to) (pairs.standbys (backed_up shape.nodes to))

  -- what is for the node's own virtual node fits it where it fits the primary
  primary_delivery : (content : Content) → addressed shape.nodes content ≡ Some to →
      replica_for here (addressed shape.nodes content) ≡ Some (pairs.primaries to)
  primary_delivery content for =
      ap (replica_for here) for ∙ primary_in_slot shape.nodes to (pairs.primaries to) (pairs.standbys (backed_up shape.nodes to)) counted below

  -- a message fits a node where it fits the replica that it is for
  delivery_fits : (content : Content) → to ≢ FRONT → IsPairAddressed shape.nodes from to content → FitsReplica shape pairs to content (logged_at content) →
      DeliveryFits (nothing_noted shape) here from content
  delivery_fits (Log v number entry) apart is fits =
      let back : backed_up shape.nodes to ≡ v = ap (backed_up shape.nodes) is.receiver ∙ backed_up-standby shape.nodes v counted is.node in
      record {
        replica = pairs.standbys v;
        here = subst (λ n. replica_at here n ≡ Some (pairs.standbys n)) back
            (standby_in_slot shape.nodes to (pairs.primaries to) (pairs.standbys (backed_up shape.nodes to)) counted below);
        fits = fits.1;
      }
  delivery_fits (LogAck v number) apart is fits =
      record { replica = pairs.primaries to; here = primary_delivery (LogAck v number) (ap (λ n. Some n) (sym is.receiver)); fits = fits }
  delivery_fits content apart is fits =
      record { replica = pairs.primaries to; here = primary_delivery content (addressed_to shape.nodes from to content apart is); fits = fits }

-- what fits an actor other than the front fits its replica
fits_node : (shape : Shape) (pairs : PairWorld) (from to : ℕ) (content : Content) → eqb to FRONT ≡ false → PairMessageFits shape pairs from to content →
    FitsReplica shape pairs to content (logged_at content)
fits_node shape pairs from to content elsewhere fits = rw elsewhere at fits

module _ (shape : Shape) (run : Run) (size : IsClusterSize shape.nodes shape.spares) (wide : IsWideRun (system shape.nodes) shape run)
    (is : IsPairRunOf shape run) (addressed_all : PairMessagesAreAddressed) (inputs_fit : PairInputsFit) where
  -- the system with packets
  abbrev world : World Core
  world = world_after (system shape.nodes) shape run

  -- as cores and queues
  abbrev cores : QueueWorld Core
  cores = queue_world_of (watched_after (system shape.nodes) shape run)

  -- as pairs
  abbrev state : PairWorld
  state = pairs_after shape run

  -- its cores are those with packets
  core_is : (actor : ℕ) → cores.cores actor ≡ (world.actors actor).core
  core_is actor = ap (λ (w : World Core). (w.actors actor).core) (watching_leaves_world (system shape.nodes) shape run)

  -- no endpoint has noted anything
  noted_is : (actor : ℕ) → nothing_noted shape ≡ noted_in (world.actors actor).endpoint
  noted_is actor =
      let shaped = endpoints_are_shaped (system shape.nodes) shape run size wide actor in
      same_noted (nothing_noted shape) (noted_in (world.actors actor).endpoint) (sym shaped.nodes) (sym shaped.spares)
      (sym (is.alike.noted actor) ∙ ap (λ (w : World Core). (w.actors actor).endpoint.noted) (watching_leaves_world (system shape.nodes) shape run))

  -- which is lawful
  lawful : IsLawfullyNoted (nothing_noted shape)
  lawful = record { size = size; lawful = IsLawfulRoster-none shape.nodes shape.spares }

  -- the front takes it
  front_takes : (from to : ℕ) (content : Content) → to ≡ FRONT → PairMessageFits shape state from to content →
      IsTaken to (nothing_noted shape) (cores.cores to) from content
  front_takes from to content here fits =
      subst (λ n. PairMessageFits shape state from n content → IsTaken n (nothing_noted shape) (cores.cores n) from content) (sym here)
      (λ fit. subst (λ core. IsTaken FRONT (nothing_noted shape) core from content) (sym is.alike.front)
      (record { fits = fit; sends = message_goes (nothing_noted shape) lawful state.front from content false })) fits

  -- a node takes it
  node_takes : (from to : ℕ) (content : Content) → from < ACTORS → to ≢ FRONT → IsPairAddressed shape.nodes from to content →
      PairMessageFits shape state from to content → IsTaken to (nothing_noted shape) (cores.cores to) from content
  node_takes from to content sender apart way fits =
      let below : to < shape.nodes = pair_receiver_below shape.nodes from to content size.counted apart way in
      let fit : DeliveryFits (nothing_noted shape) (here shape state from to size.counted below) from content
      = delivery_fits shape state from to size.counted below content apart way (fits_node shape state from to content (ne_eqb to FRONT apart) fits) in
      subst (λ core. IsTaken to (nothing_noted shape) core from content) (sym (node_here shape size.counted cores state is.alike to below))
      (record { fits = fit; sends = node_sends (nothing_noted shape) (here shape state from to size.counted below) from content false lawful sender fit })

  -- the head of a queue is taken
  taken_at_head : (m : Message) → Contains world.packets m → m.from < ACTORS → received (world.actors m.to).endpoint m.from m.seq ≡ Now →
      IsTaken m.to (noted_in (world.actors m.to).endpoint) (world.actors m.to).core m.from m.content
  taken_at_head m emitted sender now =
      let head : IsHead (cores.queues m.from m.to) m = accepted_is_head (system shape.nodes) shape run size wide m emitted now in
      let rest : List Content = contents_of head.rest in
      let waits : state.mail m.from m.to ≡ m.content ∷ rest = sym (is.alike.mail m.from m.to) ∙ ap contents_of head.waits in
      let way : IsPairAddressed shape.nodes m.from m.to m.content
      = All-head (IsPairAddressed shape.nodes m.from m.to) m.content rest
      (subst (All (IsPairAddressed shape.nodes m.from m.to)) waits (addressed_all shape (pair_events_of shape run) size is.is m.from m.to)) in
      let fits : PairMessageFits shape state m.from m.to m.content
      = inputs_fit shape (pair_events_of shape run) (deliver m.from m.to false) size is.is (m.content, rest, waits) m.content rest waits in
      subst₂ (λ noted core. IsTaken m.to noted core m.from m.content) (noted_is m.to) (core_is m.to)
      (elim (cases_eq m.to FRONT) [
        | inl here ↦ front_takes m.from m.to m.content here fits
        | inr apart ↦ node_takes m.from m.to m.content sender apart way fits
      ])

  -- a packet that was emitted can be handled
  pub packet_fits : (m : Message) → Contains world.packets m → m.from < ACTORS → HandlingFits (delivered_core m.to) CoreDeliveryFits (world.actors m.to) m
  packet_fits m emitted sender = record {
    sender = sender;
    core = λ now. (taken_at_head m emitted sender now).fits;
    sends = λ now. (taken_at_head m emitted sender now).sends;
  }

  -- a line that may be fed can be fed
  pub feeding_fits : (number : ℕ) (text : List ℕ) (said : List Out) → MayFeed world number said →
      FeedingFits (fed_core FRONT) CoreLineFits (world.actors FRONT) number text said
  feeding_fits number text said may =
      let lines : state.lines ≡ world.lines
      = sym is.alike.lines ∙ ap (λ (w : World Core). w.lines) (watching_leaves_world (system shape.nodes) shape run) in
      let fed : IsFed (noted_in (world.actors FRONT).endpoint) (world.actors FRONT).core number text said
      = subst₂ (λ noted core. IsFed noted core number text said) (noted_is FRONT) (sym is.alike.front ∙ core_is FRONT)
      (record {
        fits = inputs_fit shape (pair_events_of shape run) (take_line number text said) size is.is (may.next ∙ ap (λ n. n + 1) (sym lines), may.silent);
        sends = line_goes (nothing_noted shape) lawful state.front number text said;
      }) in
      record { core = fed.fits; sends = fed.sends }
