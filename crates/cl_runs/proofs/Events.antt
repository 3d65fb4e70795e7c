-- The invariant over one event.
use Rattle.std.specs.Option.{IfSome}
use Rattle.std.specs.List.{slice_get}
use Rattle.std.proofs.Common.{◌≡◌, ◌⊎◌, ℕ, ◌+◌, ◌-◌, ◌<◌, Bool, eqb, List, [], ◌∷◌, ◌++◌, length, Option, Some, None, refl, ap, sym, ◌∙◌, subst, subst₂, inl, inr, arith}
use Rattle.std.proofs.Math.Path.{fun_ext}
use Rattle.std.proofs.lemmas.Bool.{cond_both, eqb-true}
use Rattle.std.proofs.lemmas.List.{append-nil, length_push}
use Rattle.cl_types.proofs.PlacementLaws.{node_count-bounds}
use Rattle.cl_link.specs.Network.{IsPrefixOf}
use Rattle.cl_link.proofs.Indices.{All-slice_get}
use Rattle.cl_roster.specs.declared.entry.RosterEntry.{RosterEntry}
use Rattle.cl_roster.specs.Roster.{IsClusterSize, IsLawfulEntry, IsLawfulRoster}
use Rattle.cl_roster.proofs.Lawful.{IsLawfulRoster-push}
use Rattle.cl_wire.specs.Message.{Message}
use Rattle.cl_endpoint.specs.declared.limits.TheConstants.{ACTORS}
use Rattle.cl_steps.specs.declared.actors.TheConstants.{FRONT}
use Rattle.cl_endpoint.specs.declared.received.Received.{Received}
use Rattle.cl_endpoint.specs.declared.received.Received.TheVariants.{Dropped, Bare, Now, Old, Gap}
use Rattle.cl_endpoint.specs.Endpoint.{EndpointState, set_number, received, after_receive, owed_to, after_gives, after_tick, after_note}
use Rattle.cl_actor.specs.Core.{Noted, CoreStep}
use Rattle.cl_actor.specs.Acting.{ActingState, noted_in, unmoved, finished, endpoint_after, accepted_step, after_offer}
use Rattle.cl_runs.specs.World.{Cores, IsOffered, Shape, World, endpoints_of, IsLiving, Happening, handle, note, tick, feed, stop, quiet, packet_at, with_at, after_acting, after_handling, after_noting, with_offered, after_quiet, after, HasNotedAll, IsEnabledWidely}
use Rattle.cl_runs.specs.Queues.{Queues, with_sends, sent_to, tagged, step_on, step_at, count_noted, Watched, after_watched}
use Rattle.cl_runs.specs.Laws.{IsFaithful, IsShaped, IsNotedBy}
use Rattle.cl_runs.proofs.Updates.{with_at_same, map-with_at, map-with_at_same}
use Rattle.cl_runs.proofs.Calls.{frame_then, frame-after_receive, frame-after_tick, frame-after_emit, alike-after_tick, noted-after_note}
use Rattle.cl_runs.proofs.Giving.{frame-after_gives, sent_to-nothing}
use Rattle.cl_runs.proofs.Linked.{AreLinked, shaped-here, linked_left, linked_alike, linked_taken, linked_given, linked_emitted, leaves_noted}
use Rattle.cl_runs.proofs.Noting.{prefix_same, prefix_then, prefix_push, prefix_whole, prefix_next}

-- the front, the nodes and the spares, be they stopped or not
abbrev pub IsOfCluster : Shape → ℕ → Type 0
IsOfCluster shape actor = (actor ≡ FRONT) ⊎ (actor < shape.nodes + shape.spares)

pub living_of_cluster : (shape : Shape) (roster : List RosterEntry) (actor : ℕ) → IsLiving shape roster actor → IsOfCluster shape actor
living_of_cluster shape roster actor (inl front) = inl front
living_of_cluster shape roster actor (inr lives) = inr lives.0

-- they are actors
pub cluster_actors : (shape : Shape) → IsClusterSize shape.nodes shape.spares → (actor : ℕ) → IsOfCluster shape actor → actor < ACTORS
cluster_actors shape size actor known = omega (arith, node_count-bounds shape.nodes size.counted, size.few_spares)

-- an acknowledgement is owed to an actor
owed_to_actor : (kind : Received) (from : ℕ) → from < ACTORS → IfSome (owed_to kind from) (λ peer. peer < ACTORS)
owed_to_actor Now from actor = actor
owed_to_actor Dropped from actor = tt
owed_to_actor Bare from actor = tt
owed_to_actor Old from actor = actor
owed_to_actor Gap from actor = actor

-- who sends nothing gives nothing
pub sends_nothing : (queues : Queues) (giver tag : ℕ) → with_sends queues giver tag [] ≡ queues
sends_nothing queues giver tag = fun_ext (λ from. fun_ext (λ to. cond_both (eqb from giver) (queues from to ++ tagged tag (sent_to to [])) (queues from to) (λ all. all ≡ queues from to)
    (λ here. ap (λ contents. queues from to ++ tagged tag contents) (sent_to-nothing to) ∙ append-nil (queues from to)) (λ elsewhere. refl)))

-- the invariant of a run
pub record IsSound {S : Type 0} (shape : Shape) (watched : Watched S) : Type 0 where
  pub linked : AreLinked shape (endpoints_of watched.world) watched.given watched.world.packets
  pub noted : IsNotedBy shape watched.world
  -- nobody else was heard of
  pub known : (from to : ℕ) → IsOfCluster shape from ⊎ (watched.given from to ≡ [])

-- an actor is ready to act with this endpoint: it lives by the roster, which may have grown, and has noted a beginning of it
pub record IsReady {S : Type 0} (shape : Shape) (world : World S) (given : Queues) (roster : List RosterEntry) (me : ℕ) (heard : EndpointState) : Type 0 where
  pub linked : AreLinked shape (with_at (endpoints_of world) me heard) given world.packets
  pub lives : IsLiving shape roster me
  pub lawful : IsLawfulRoster shape.nodes shape.spares roster
  pub grows : IsPrefixOf world.roster roster
  pub noted : IsPrefixOf heard.noted roster

-- what an actor knows of the roster
pub noted_same : (shape : Shape) (actor : ℕ) (e : EndpointState) → IsShaped shape actor e → (entries : List RosterEntry) → e.noted ≡ entries →
    noted_in e ≡ record { nodes = shape.nodes; spares = shape.spares; entries = entries }
noted_same shape actor e shaped entries noted = λ i. record { nodes = shaped.nodes i; spares = shaped.spares i; entries = noted i }

-- the end of a step leaves what was noted
pub noted-endpoint_after : {S : Type 0} (heard : EndpointState) (stepped : CoreStep S) (owed : Option ℕ) → (endpoint_after heard stepped.step owed).noted
    ≡ heard.noted
noted-endpoint_after heard stepped owed = (frame_then (frame-after_gives stepped.step.sends heard)
    (frame-after_emit (after_gives heard stepped.step.sends) owed)).noted

-- how many entries an actor has noted, once it has noted what is offered
pub length-after_offer : (e : EndpointState) (offered : Option RosterEntry) → set_number e + count_noted offered ≡ length (after_offer e offered).noted
length-after_offer e None = omega arith
length-after_offer e (Some entry) = omega (arith, length_push e.noted entry, ap length (noted-after_note e entry))

module _ {S : Type 0} (shape : Shape) (world : World S) (given : Queues) where
  -- the endpoints, where one of them is written out
  pub linked_here : (me : ℕ) → AreLinked shape (endpoints_of world) given world.packets → AreLinked shape (with_at (endpoints_of world) me (world.actors me).endpoint) given world.packets
  linked_here me are = subst (λ ends. AreLinked shape ends given world.packets) (sym (with_at_same (endpoints_of world) me)) are

  -- what was emitted says what is so
  pub emitted_faithful : (id : ℕ) (m : Message) → AreLinked shape (endpoints_of world) given world.packets → packet_at world id ≡ Some m → IsFaithful (endpoints_of world) given m
  emitted_faithful id m are found = All-slice_get (IsFaithful (endpoints_of world) given) world.packets (id - 1) m are.faithful found

  pub faithful_here : (me : ℕ) (m : Message) → IsFaithful (endpoints_of world) given m → IsFaithful (with_at (endpoints_of world) me (world.actors me).endpoint) given m
  faithful_here me m faithful = subst (λ ends. IsFaithful ends given m) (sym (with_at_same (endpoints_of world) me)) faithful

  module _ (sound : IsSound shape (record { world = world; given = given })) where
    -- an actor is ready where it has noted no more
    ready_with : (me : ℕ) (heard : EndpointState) → IsLiving shape world.roster me →
        AreLinked shape (with_at (endpoints_of world) me heard) given world.packets →
        heard.noted ≡ (world.actors me).endpoint.noted → IsReady shape world given world.roster me heard
    ready_with me heard lives linked noted = record {
      linked = linked;
      lives = lives;
      lawful = sound.noted.lawful;
      grows = prefix_same world.roster;
      noted = subst (λ entries. IsPrefixOf entries world.roster) (sym noted) (sound.noted.noted me);
    }

    pub ready_same : (me : ℕ) → IsLiving shape world.roster me → IsReady shape world given world.roster me (world.actors me).endpoint
    ready_same me lives = ready_with me (world.actors me).endpoint lives (linked_here me sound.linked) refl

    pub ready_ticked : (me : ℕ) → IsLiving shape world.roster me → IsReady shape world given world.roster me (after_tick (world.actors me).endpoint)
    ready_ticked me lives =
        let e : EndpointState = (world.actors me).endpoint in
        ready_with me (after_tick e) lives
        (linked_alike (endpoints_of world) me e (linked_here me sound.linked) (after_tick e) (frame-after_tick e) (alike-after_tick e))
        (frame-after_tick e).noted

    -- it has taken a packet
    pub ready_received : (me : ℕ) (m : Message) → IsLiving shape world.roster me → IsFaithful (endpoints_of world) given m → m.to ≡ me →
        IsReady shape world given world.roster me (after_receive (world.actors me).endpoint m.from m.seq m.ack)
    ready_received me m lives faithful here =
        let e : EndpointState = (world.actors me).endpoint in
        ready_with me (after_receive e m.from m.seq m.ack) lives
        (linked_taken (endpoints_of world) me e (linked_here me sound.linked) m here (faithful_here me m faithful))
        (frame-after_receive e m.from m.seq m.ack).noted

    linked_noted : (me : ℕ) (entry : RosterEntry) → AreLinked shape
        (with_at (endpoints_of world) me (after_note (world.actors me).endpoint entry)) given world.packets
    linked_noted me entry =
        let e : EndpointState = (world.actors me).endpoint in
        linked_left (endpoints_of world) me e (linked_here me sound.linked) (after_note e entry) (leaves_noted e entry)

    -- it has noted the next entry
    pub ready_noted : (me : ℕ) (entry : RosterEntry) → IsLiving shape world.roster me → slice_get world.roster (set_number (world.actors me).endpoint)
        ≡ Some entry →
        IsReady shape world given world.roster me (after_note (world.actors me).endpoint entry)
    ready_noted me entry lives next =
        let e : EndpointState = (world.actors me).endpoint in
        record {
          linked = linked_noted me entry;
          lives = lives;
          lawful = sound.noted.lawful;
          grows = prefix_same world.roster;
          noted = subst (λ entries. IsPrefixOf entries world.roster) (sym (noted-after_note e entry))
              (prefix_next e.noted world.roster entry (sound.noted.noted me) next);
        }

    -- who has noted as many entries as there are has noted all
    pub noted_all : (actor : ℕ) → HasNotedAll world actor → (world.actors actor).endpoint.noted ≡ world.roster
    noted_all actor all = prefix_whole (world.actors actor).endpoint.noted world.roster (sound.noted.noted actor) all

    -- the front has noted what it offers, which stands in the roster
    pub ready_offered : (offered : Option RosterEntry) → HasNotedAll world FRONT → IsOffered (noted_in (world.actors FRONT).endpoint) offered →
        IsReady shape world given (with_offered world.roster offered) FRONT (after_offer (world.actors FRONT).endpoint offered)
    ready_offered None all lawful = ready_same FRONT (inl refl)
    ready_offered (Some entry) all lawful =
        let e : EndpointState = (world.actors FRONT).endpoint in
        let fits : IsLawfulEntry shape.nodes shape.spares world.roster entry
        = subst (λ (known : Noted). IsLawfulEntry known.nodes known.spares known.entries entry)
        (noted_same shape FRONT e (sound.linked.shaped FRONT) world.roster (noted_all FRONT all)) lawful in
        record {
          linked = linked_noted FRONT entry;
          lives = inl refl;
          lawful = IsLawfulRoster-push shape.nodes shape.spares world.roster entry sound.noted.lawful fits;
          grows = prefix_push world.roster entry;
          noted = subst (λ entries. IsPrefixOf entries (world.roster ++ entry ∷ []))
              (sym (noted-after_note e entry ∙ ap (λ entries. entries ++ entry ∷ []) (noted_all FRONT all)))
              (prefix_same (world.roster ++ entry ∷ []));
        }

    module _ (size : IsClusterSize shape.nodes shape.spares) (roster : List RosterEntry) (me : ℕ) (heard : EndpointState)
        (ready : IsReady shape world given roster me heard) where
      ready_actor : me < ACTORS
      ready_actor = cluster_actors shape size me (living_of_cluster shape roster me ready.lives)

      -- what each actor has noted is a beginning of the roster
      pub noted_here : (actor : ℕ) → IsPrefixOf (with_at (endpoints_of world) me heard actor).noted roster
      noted_here actor = cond_both (eqb actor me) heard (endpoints_of world actor) (λ e. IsPrefixOf e.noted roster)
          (λ here. ready.noted) (λ elsewhere. prefix_then _ _ _ (sound.noted.noted actor) ready.grows)

      -- it gives and emits
      pub sound_finished : (stepped : CoreStep S) (owed : Option ℕ) → IfSome owed (λ peer. peer < ACTORS) → (tag : ℕ) → tag ≡ length heard.noted → (lines : ℕ) →
          IsSound shape (record {
            world = record (after_acting world me (finished stepped heard owed)) { roster = roster; lines = lines };
            given = with_sends given me tag stepped.step.sends;
          })
      sound_finished stepped owed known tag is lines =
          let here : ActingState S = (finished stepped heard owed).0 in record {
            linked = subst₂ (λ ends number. AreLinked shape ends (with_sends given me number stepped.step.sends)
                (after_acting world me (finished stepped heard owed)).packets)
                (sym (map-with_at (λ (x : ActingState S). x.endpoint) world.actors me here)) (sym is)
                (linked_emitted (endpoints_of world) me (after_gives heard stepped.step.sends)
                (linked_given (endpoints_of world) me heard ready.linked stepped.step.sends) ready_actor owed
                (subst (λ count. IfSome owed (λ peer. peer < count)) (sym ((frame-after_gives stepped.step.sends heard).links
                ∙ (shaped-here (endpoints_of world) me heard ready.linked).links)) known));
            noted = record {
              lawful = ready.lawful;
              noted = λ actor. cond_both (eqb actor me) here (world.actors actor) (λ x. IsPrefixOf x.endpoint.noted roster)
                  (λ at. subst (λ entries. IsPrefixOf entries roster) (sym (noted-endpoint_after heard stepped owed)) ready.noted)
                  (λ elsewhere. prefix_then _ _ _ (sound.noted.noted actor) ready.grows);
            };
            known = λ from to. cond_both (eqb from me) (given from to ++ tagged tag (sent_to to stepped.step.sends)) (given from to)
                (λ all. IsOfCluster shape from ⊎ (all ≡ []))
                (λ at. inl (subst (IsOfCluster shape) (sym (eqb-true from me at)) (living_of_cluster shape roster me ready.lives)))
                (λ elsewhere. sound.known from to);
          }

    -- the front notes a quiet moment
    sound_quiet : (cores : Cores S) (tag : ℕ) → IsSound shape (record { world = after_quiet cores world; given = with_sends given FRONT tag [] })
    sound_quiet cores tag =
        let noting : ActingState S = record (world.actors FRONT) { core = cores.quieted FRONT (world.actors FRONT).core } in
        let ends : endpoints_of (after_quiet cores world) ≡ endpoints_of world
        = map-with_at_same (λ (x : ActingState S). x.endpoint) world.actors FRONT noting refl in record {
          linked = subst₂ (λ ends all. AreLinked shape ends all world.packets) (sym ends) (sym (sends_nothing given FRONT tag)) sound.linked;
          noted = record {
            lawful = sound.noted.lawful;
            noted = subst (λ (ends : ℕ → EndpointState). (actor : ℕ) → IsPrefixOf (ends actor).noted world.roster) (sym ends) sound.noted.noted;
          };
          known = subst (λ (all : Queues). (from to : ℕ) → IsOfCluster shape from ⊎ (all from to ≡ [])) (sym (sends_nothing given FRONT tag)) sound.known;
        }

-- an event that may happen keeps the invariant
pub sound_event : {S : Type 0} (cores : Cores S) (shape : Shape) → IsClusterSize shape.nodes shape.spares → (watched : Watched S) (happening : Happening) (mark : Bool) →
    IsSound shape watched → IsEnabledWidely shape watched.world happening → IsSound shape (after_watched cores watched (happening, mark))
unfolding after
sound_event {S} cores shape size watched (handle actor id) mark sound may =
    let world : World S = watched.world in
    let e : EndpointState = (world.actors actor).endpoint in
    let m : Message = may.packet in
    let faithful : IsFaithful (endpoints_of world) watched.given m = emitted_faithful shape world watched.given id m sound.linked may.emitted in
    subst (λ (packet : Option Message). IsSound shape (record {
      world = after_handling cores world actor mark packet;
      given = with_sends watched.given actor (set_number e + 0) (step_on cores (world.actors actor) actor mark packet).step.sends;
    })) (sym may.emitted)
    (sound_finished shape world watched.given sound size world.roster actor (after_receive e m.from m.seq m.ack)
    (ready_received shape world watched.given sound actor m may.lives faithful may.addressed)
    (accepted_step (cores.delivered actor) (world.actors actor) m mark) (owed_to (received e m.from m.seq) m.from)
    (owed_to_actor (received e m.from m.seq) m.from faithful.sender)
    (set_number e + 0) (omega (arith, ap length (frame-after_receive e m.from m.seq m.ack).noted)) world.lines)
sound_event {S} cores shape size watched (note actor) mark sound may =
    let world : World S = watched.world in
    let before : ActingState S = world.actors actor in
    subst (λ (next : Option RosterEntry). IsSound shape (record {
      world = after_noting cores world actor next;
      given = with_sends watched.given actor (set_number before.endpoint + count_noted next) (step_at cores before actor next).step.sends;
    })) (sym may.next)
    (sound_finished shape world watched.given sound size world.roster actor (after_note before.endpoint may.entry)
    (ready_noted shape world watched.given sound actor may.entry may.lives may.next)
    (cores.noted actor (noted_in before.endpoint) before.core may.entry) None tt (set_number before.endpoint + 1)
    (length-after_offer before.endpoint (Some may.entry)) world.lines)
sound_event cores shape size watched (tick actor) mark sound lives =
    let before = watched.world.actors actor in
    sound_finished shape watched.world watched.given sound size watched.world.roster actor (after_tick before.endpoint)
    (ready_ticked shape watched.world watched.given sound actor lives)
    (unmoved before.core) None tt (set_number before.endpoint + 0) (omega (arith, ap length (frame-after_tick before.endpoint).noted)) watched.world.lines
sound_event cores shape size watched (feed number text said) mark sound may =
    let before = watched.world.actors FRONT in
    sound_finished shape watched.world watched.given sound size watched.world.roster FRONT before.endpoint
    (ready_same shape watched.world watched.given sound FRONT (inl refl))
    (cores.fed FRONT (noted_in before.endpoint) before.core number text said) None tt (set_number before.endpoint + 0) (omega arith) (watched.world.lines + 1)
sound_event {S} cores shape size watched (stop n) mark sound all =
    let before : ActingState S = watched.world.actors FRONT in
    let stepped : CoreStep S = cores.stopped (noted_in before.endpoint) before.core n in
    sound_finished shape watched.world watched.given sound size (with_offered watched.world.roster stepped.step.entry) FRONT
    (after_offer before.endpoint stepped.step.entry)
    (ready_offered shape watched.world watched.given sound stepped.step.entry all (cores.stopped_lawfully (noted_in before.endpoint) before.core n))
    stepped None tt (set_number before.endpoint + count_noted stepped.step.entry) (length-after_offer before.endpoint stepped.step.entry) watched.world.lines
sound_event {S} cores shape size watched quiet mark sound may =
    sound_quiet shape watched.world watched.given sound cores (set_number (watched.world.actors FRONT).endpoint + 0)
