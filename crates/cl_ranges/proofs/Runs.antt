-- Each packet of a run of which no step is spent is in range.
use Rattle.std.proofs.Common.{◌≡◌, ℕ, ◌+◌, ◌-◌, ◌≤◌, Bool, false, eqb, inl, inr, List, [], ◌∷◌, ◌++◌, length, fold, All, refl, sym, ap, ◌∙◌, subst, arith}
use Rattle.std.proofs.lemmas.Bool.{cond_both, eqb-true}
use Rattle.std.proofs.lemmas.List.{length-map}
use Rattle.std.proofs.lemmas.List.Elements.{All-nil, All-append, All-map, All-weaker}
use Rattle.std.proofs.lemmas.Option.{slice_get_within}
use Rattle.cl_cluster.proofs.EveryRun.{runs_are_pair_runs}
use Rattle.cl_cluster.specs.Alike.{pair_events_of, pairs_after}
use Rattle.cl_endpoint.specs.Endpoint.{set_number}
use Rattle.cl_link.proofs.Indices.{All-slice_get}
use Rattle.cl_link.specs.declared.link.TheConstants.{NUMBER_MAX}
use Rattle.cl_pairs.proofs.Streams.{streams_after}
use Rattle.cl_pairs.specs.Pairs.{PairWorld, after_pair_event, pair_world_after}
use Rattle.cl_ranges.proofs.FirmRuns.{firm_runs_are_in_range}
use Rattle.cl_ranges.proofs.Given.{sends_behind}
use Rattle.cl_ranges.proofs.Mail.{IsAckInRange, AreAcksInRange, event_acks, mail_range}
use Rattle.cl_ranges.proofs.Steps.{event_step, AreTogether, same_step}
use Rattle.cl_ranges.proofs.Together.{together_after}
use Rattle.cl_ranges.proofs.Unspent.{event_unspent}
use Rattle.cl_ranges.specs.Laws.{IsUnspentEvent, AreUnspent, GivenIsInRange, PacketsAreInRange}
use Rattle.cl_ranges.specs.Spent.{is_spent, IsUnspentRun}
use Rattle.cl_roster.specs.Roster.{IsClusterSize}
use Rattle.cl_runs.proofs.Runs.{runs_go_on, watching_leaves_world}
use Rattle.cl_runs.specs.Laws.{IsBare, CarriesGiven, IsFaithful}
use Rattle.cl_runs.specs.Queues.{Tagged, Queues, tagged, sent_to, with_sends, actor_of, core_step, noted_more, Watched, after_watched, watched_after, queue_events_from, queue_events_of, QueueEvent, queue_event_of}
use Rattle.cl_runs.specs.World.{Cores, Shape, World, endpoints_of, Happening, Run, first_world, after_event, EachMayHappen, world_after, IsEnabledWidely, IsWideRun}
use Rattle.cl_seen.proofs.EveryRun.{pair_runs_are_seen}
use Rattle.cl_seen.proofs.Runs.{each_append, each_parts, holds_of_all, pairs_push, seen_push}
use Rattle.cl_seen.specs.Laws.{IsSeen}
use Rattle.cl_seen.specs.Seen.{seen_event, seen_events}
use Rattle.cl_seen.specs.Ways.{IsPairAddressed}
use Rattle.cl_steps.specs.Steps.{Step}
use Rattle.cl_steps.specs.declared.steps.Outgoing.{Outgoing}
use Rattle.cl_system.specs.Firm.{after_firm_event, first_firm_world, firm_world_after}
use Rattle.cl_system.specs.System.{Core, system}
use Rattle.cl_wire.specs.Message.{Content, Message, kind_of, Command, Outcome, Ask, Answer, Prepare, Vote, Finish, Log, LogAck}
use Rattle.cl_wire.specs.Range.{IsContent, IsSeq, IsInRange}
use Rattle.cl_ranges.proofs.Tests.{happening_unspent, event_few, event_acting}

-- a message that was given is in range, and goes between the actors that its kind names
abbrev IsGiven : ℕ → ℕ → ℕ → Content → Type 0
IsGiven nodes from to content = IsContent content × IsPairAddressed nodes from to content

-- ---- one event more

-- what was given, with what an actor gives now
given_more : (nodes : ℕ) (given : Queues) (me tag : ℕ) (sends : List Outgoing) →
    ((from to : ℕ) → All (λ (message : Tagged). IsGiven nodes from to message.content) (given from to)) →
    ((to : ℕ) → All (IsGiven nodes me to) (sent_to to sends)) → (from to : ℕ) → All (λ (message : Tagged). IsGiven nodes from to message.content)
    (with_sends given me tag sends from to)
given_more nodes given me tag sends are new from to =
    cond_both (eqb from me) (given from to ++ tagged tag (sent_to to sends)) (given from to) (All (λ (message : Tagged). IsGiven nodes from to message.content))
    (λ here. All-append (λ (message : Tagged). IsGiven nodes from to message.content) (given from to) (tagged tag (sent_to to sends)) (are from to)
    (All-map (λ (message : Tagged). IsGiven nodes from to message.content) (λ content. let one : Tagged = record { content = content; tag = tag } in one)
    (sent_to to sends)
    (subst (λ n. All (IsGiven nodes n to) (sent_to to sends)) (sym (eqb-true from me here)) (new to))))
    (λ elsewhere. are from to)

-- the same of how much was given
few_more : (given : Queues) (me tag : ℕ) (sends : List Outgoing) → ((from to : ℕ) → length (given from to) ≤ NUMBER_MAX) →
    ((to tag : ℕ) → length (given me to ++ tagged tag (sent_to to sends)) ≤ NUMBER_MAX) →
    (from to : ℕ) → length (with_sends given me tag sends from to) ≤ NUMBER_MAX
few_more given me tag sends few new from to =
    cond_both (eqb from me) (given from to ++ tagged tag (sent_to to sends)) (given from to) (λ (messages : List Tagged). length messages ≤ NUMBER_MAX)
    (λ here. subst (λ n. length (given n to ++ tagged tag (sent_to to sends)) ≤ NUMBER_MAX) (sym (eqb-true from me here)) (new to tag))
    (λ elsewhere. few from to)

-- what two runs are for queues
events_append : (cores : Cores Core) (run more : Run) (start : World Core) →
    queue_events_from cores (run ++ more) start ≡ queue_events_from cores run start ++ queue_events_from cores more (fold (after_event cores) start run)
events_append cores [] more start = refl
events_append cores (event ∷ run) more start =
    ap (λ list. queue_event_of start event.0 event.1 ∷ list) (events_append cores run more (after_event cores start event))

-- what may happen, and is not spent
abbrev IsUnspentlyEnabled : Shape → World Core → Happening × Bool → Type 0
IsUnspentlyEnabled shape start event = IsEnabledWidely shape start event.0 × (is_spent start event.0 event.1 ≡ false)

-- each event of what may happen so, in its turn
module _ (shape : Shape) where
  -- so is each of these
  abbrev AreSo : Run → World Core → Type 0
  AreSo run start = EachMayHappen (IsUnspentlyEnabled shape) (after_event (system shape.nodes)) run start

  -- they are so, if each may happen and none is spent
  so_from : (run : Run) (start : World Core) → EachMayHappen (λ w event. IsEnabledWidely shape w event.0) (after_event (system shape.nodes)) run start →
      EachMayHappen (λ w event. is_spent w event.0 event.1 ≡ false) (after_event (system shape.nodes)) run start → AreSo run start
  so_from [] start may unspent = tt
  so_from (event ∷ run) start may unspent = ((may.0, unspent.0), so_from run (after_event (system shape.nodes) start event) may.1 unspent.1)

  -- each of them may happen
  wide_from : (run : Run) (start : World Core) → AreSo run start →
      EachMayHappen (λ w event. IsEnabledWidely shape w event.0) (after_event (system shape.nodes)) run start
  wide_from [] start so = tt
  wide_from (event ∷ run) start so = (so.0.0, wide_from run (after_event (system shape.nodes) start event) so.1)

  -- it is a wide run
  wide_run : (run : Run) → AreSo run (first_world (system shape.nodes) shape) → IsWideRun (system shape.nodes) shape run
  unfolding IsWideRun
  wide_run run so = wide_from run (first_world (system shape.nodes) shape) so

-- what is so of a run
record IsRunInRange (shape : Shape) (run : Run) : Type 0 where
  unspent : AreUnspent shape (seen_events shape (pair_events_of shape run))
  acks : AreAcksInRange (pairs_after shape run)
  given : (from to : ℕ) → All (λ (message : Tagged). IsGiven shape.nodes from to message.content) ((watched_after (system shape.nodes) shape run).given from to)
  few : (from to : ℕ) → length ((watched_after (system shape.nodes) shape run).given from to) ≤ NUMBER_MAX

module _ (shape : Shape) (size : IsClusterSize shape.nodes shape.spares) where
  -- what is on its way is in range
  mail_after : (run : Run) → IsWideRun (system shape.nodes) shape run → AreUnspent shape (seen_events shape (pair_events_of shape run)) →
      AreAcksInRange (pairs_after shape run) →
      (from to : ℕ) → All IsContent ((pairs_after shape run).mail from to)
  mail_after run wide unspent acks =
      let events : List QueueEvent = pair_events_of shape run in
      let is_seen : IsSeen shape events = pair_runs_are_seen shape events size (runs_are_pair_runs shape run size wide).is in
      mail_range shape size events is_seen (firm_runs_are_in_range shape (seen_events shape events) size is_seen.firm unspent)
      (together_after shape run size wide).addressed acks

  module _ (run : Run) (happening : Happening) (mark : Bool) where
    -- the system with packets after it
    abbrev watched : Watched Core
    watched = watched_after (system shape.nodes) shape run

    -- what an event more is for queues
    abbrev event : QueueEvent
    event = queue_event_of watched.world happening mark

    -- the run with this event
    abbrev longer : Run
    longer = run ++ (happening, mark) ∷ []

    -- what the run is for queues, with one event more
    events_push : pair_events_of shape longer ≡ pair_events_of shape run ++ event ∷ []
    unfolding queue_events_of world_after
    events_push =
        events_append (system shape.nodes) run ((happening, mark) ∷ []) (first_world (system shape.nodes) shape)
        ∙ ap (λ (world : World Core). pair_events_of shape run ++ queue_event_of world happening mark ∷ [])
        (sym (watching_leaves_world (system shape.nodes) shape run))

    -- the pairs after it
    pairs_longer : pairs_after shape longer ≡ after_pair_event shape (pairs_after shape run) event
    pairs_longer = ap (pair_world_after shape) events_push ∙ pairs_push shape (pair_events_of shape run) event

    -- the links after it
    watched_longer : watched_after (system shape.nodes) shape longer ≡ after_watched (system shape.nodes) watched (happening, mark)
    watched_longer = (runs_go_on (system shape.nodes) shape run happening mark).watched

    -- the last event may happen, and is not spent
    last_so : AreSo shape longer (first_world (system shape.nodes) shape) → IsUnspentlyEnabled shape watched.world (happening, mark)
    unfolding world_after
    last_so so =
        subst (λ (world : World Core). IsUnspentlyEnabled shape world (happening, mark)) (sym (watching_leaves_world (system shape.nodes) shape run))
        (each_parts (IsUnspentlyEnabled shape) (after_event (system shape.nodes)) run ((happening, mark) ∷ []) (first_world (system shape.nodes) shape) so).1.0

    module _ (wide : IsWideRun (system shape.nodes) shape run) (is : IsRunInRange shape run)
        (so : IsUnspentlyEnabled shape watched.world (happening, mark)) where
      -- the pairs after the run
      abbrev pairs : PairWorld
      pairs = pairs_after shape run

      -- the system with packets, with queues, and as pairs
      together : AreTogether shape watched pairs
      together = together_after shape run size wide

      -- no event of the firm system is spent
      unspent_longer : AreUnspent shape (seen_events shape (pair_events_of shape longer))
      unfolding firm_world_after
      unspent_longer =
          let events : List QueueEvent = pair_events_of shape run in
          subst (AreUnspent shape) (sym (ap (seen_events shape) events_push ∙ seen_push shape events event))
          (each_append (IsUnspentEvent shape) (after_firm_event shape) (seen_events shape events) (seen_event shape pairs event)
          (first_firm_world shape) is.unspent
          (event_unspent shape size events (runs_are_pair_runs shape run size wide).is event
          (happening_unspent shape size watched pairs together happening mark so.0 so.1)))

      -- acknowledgements are in range
      acks_longer : AreAcksInRange (after_pair_event shape pairs event)
      acks_longer = event_acks shape pairs (streams_after shape size.counted (pair_events_of shape run)) is.acks (mail_after run wide is.unspent is.acks) event

      module _ (wide_longer : IsWideRun (system shape.nodes) shape longer) where
        -- so is what is on its way
        mail_longer : (from to : ℕ) → All (IsGiven shape.nodes from to) ((after_pair_event shape pairs event).mail from to)
        mail_longer from to =
            let range = mail_after longer wide_longer unspent_longer (subst AreAcksInRange (sym pairs_longer) acks_longer) in
            let addressed = (together_after shape longer size wide_longer).addressed in
            subst (λ (after : PairWorld). All (IsGiven shape.nodes from to) (after.mail from to)) pairs_longer
            (λ k d h. (range from to k d h, addressed from to k d h))

        -- the run with this event
        run_longer : IsRunInRange shape longer
        run_longer =
            let me : ℕ = actor_of happening in
            let tag : ℕ = set_number (watched.world.actors me).endpoint + noted_more (system shape.nodes) watched.world happening mark in
            let sends : List Outgoing = (core_step (system shape.nodes) watched.world happening mark).step.sends in
            let same : sends ≡ (event_step shape pairs event).sends
            = ap (λ (step : Step). step.sends) (same_step shape size watched pairs together happening mark so.0) in
            record {
              unspent = unspent_longer;
              acks = subst AreAcksInRange (sym pairs_longer) acks_longer;
              given =
                  subst (λ (w : Watched Core). (from to : ℕ) → All (λ (message : Tagged). IsGiven shape.nodes from to message.content) (w.given from to))
                  (sym watched_longer)
                  (given_more shape.nodes watched.given me tag sends is.given
                  (λ to. subst (λ list. All (IsGiven shape.nodes me to) (sent_to to list)) (sym same)
                  (sends_behind (IsGiven shape.nodes me to) shape pairs event me to together.addressed
                  (event_acting shape size watched pairs together happening mark) (mail_longer me to))));
              few = subst (λ (w : Watched Core). (from to : ℕ) → length (w.given from to) ≤ NUMBER_MAX) (sym watched_longer)
                  (few_more watched.given me tag sends is.few (event_few shape size watched pairs together is.few happening mark so.0 so.1));
            }

  -- before any event
  first_run : IsRunInRange shape []
  unfolding watched_after queue_events_of seen_events pair_world_after
  first_run = record {
    unspent = tt;
    acks = λ from to. All-nil IsAckInRange;
    given = λ from to. All-nil (λ (message : Tagged). IsGiven shape.nodes from to message.content);
    few = λ from to. omega arith;
  }

  -- any run of which no step is spent
  every_run : (run : Run) → IsWideRun (system shape.nodes) shape run → IsUnspentRun shape run → IsRunInRange shape run
  unfolding IsWideRun IsUnspentRun
  every_run run wide unspent =
      holds_of_all (IsUnspentlyEnabled shape) (after_event (system shape.nodes)) (first_world (system shape.nodes) shape) (IsRunInRange shape)
      (λ before event so is.
      let parts = each_parts (IsUnspentlyEnabled shape) (after_event (system shape.nodes)) before (event ∷ []) (first_world (system shape.nodes) shape) so in
      run_longer before event.0 event.1 (wide_run shape before parts.0) is (last_so before event.0 event.1 so) (wide_run shape (before ++ event ∷ []) so))
      first_run run (so_from shape run (first_world (system shape.nodes) shape) wide unspent)

-- ---- packets

-- a message that was given has a number
seq_range : (nodes from to seq : ℕ) (content : Content) → IsPairAddressed nodes from to content → 1 ≤ seq → seq ≤ NUMBER_MAX → IsSeq (kind_of content) seq
seq_range nodes from to seq (Command v txn number asked) is low high = record { low = low; high = omega (arith, high) }
seq_range nodes from to seq (Outcome txn number outcome) is low high = record { low = low; high = omega (arith, high) }
seq_range nodes from to seq (Ask v txn number table key op) is low high = record { low = low; high = omega (arith, high) }
seq_range nodes from to seq (Answer v txn number answer) is low high = record { low = low; high = omega (arith, high) }
seq_range nodes from to seq (Prepare v txn) is low high = record { low = low; high = omega (arith, high) }
seq_range nodes from to seq (Vote v txn) is low high = record { low = low; high = omega (arith, high) }
seq_range nodes from to seq (Finish v txn commit) is low high = record { low = low; high = omega (arith, high) }
seq_range nodes from to seq (Log v number entry) is low high = record { low = low; high = omega (arith, high) }
seq_range nodes from to seq (LogAck v number) is low high = record { low = low; high = omega (arith, high) }
seq_range nodes from to seq content is low high = absurd is

-- what a packet carries
record IsCarried (m : Message) : Type 0 where
  seq : IsSeq (kind_of m.content) m.seq
  content : IsContent m.content

-- a packet with a message
carried_range : (nodes : ℕ) (given : Queues) (m : Message) → All (λ (message : Tagged). IsGiven nodes m.from m.to message.content) (given m.from m.to) →
    length (given m.from m.to) ≤ NUMBER_MAX →
    CarriesGiven given m → IsCarried m
carried_range nodes given m are few carries =
    let is : IsGiven nodes m.from m.to carries.message.content
    = All-slice_get (λ (message : Tagged). IsGiven nodes m.from m.to message.content) (given m.from m.to) (m.seq - 1) carries.message are carries.at in
    let here : IsGiven nodes m.from m.to m.content = subst (IsGiven nodes m.from m.to) carries.content is in
    let within = slice_get_within (given m.from m.to) (m.seq - 1) carries.message carries.at in
    record { seq = seq_range nodes m.from m.to m.seq m.content here.1 carries.numbered (omega (arith, within, few)); content = here.0 }

-- a packet with none
bare_range : (m : Message) → IsBare m → IsCarried m
bare_range m bare = record {
  seq = subst (λ content. IsSeq (kind_of content) m.seq) (sym bare.content) bare.number;
  content = subst IsContent (sym bare.content) tt;
}

-- a packet
packet_range : (shape : Shape) (run : Run) (pairs : PairWorld) (m : Message) → AreTogether shape (watched_after (system shape.nodes) shape run) pairs →
    IsRunInRange shape run →
    IsFaithful (endpoints_of (watched_after (system shape.nodes) shape run).world) (watched_after (system shape.nodes) shape run).given m → IsInRange m
packet_range shape run pairs m together is faithful =
    let watched : Watched Core = watched_after (system shape.nodes) shape run in
    let carried : IsCarried m = elim faithful.carries [
      | inl bare ↦ bare_range m bare
      | inr carries ↦ carried_range shape.nodes watched.given m (is.given m.from m.to) (is.few m.from m.to) carries
    ] in
    let none : set_number (watched.world.actors m.from).endpoint ≡ 0 = ap length (together.alike.noted m.from) in
    let accepted = (together.links.linked.linked m.to m.from).order.accepted in
    let same = length-map (watched.given m.to m.from) (λ (message : Tagged). message.content) in
    let few = is.few m.to m.from in
    record {
      from = omega (arith, faithful.sender);
      to = omega (arith, faithful.receiver);
      set = omega (arith, faithful.set, none);
      seq = carried.seq;
      ack = omega (arith, faithful.ack, accepted, same, few);
      content = carried.content;
    }

-- the law of packets
pub packets_are_in_range : PacketsAreInRange
packets_are_in_range shape run size wide unspent =
    let watched : Watched Core = watched_after (system shape.nodes) shape run in
    let is : IsRunInRange shape run = every_run shape size run wide unspent in
    let together : AreTogether shape watched (pairs_after shape run) = together_after shape run size wide in
    subst (λ (world : World Core). All IsInRange world.packets) (watching_leaves_world (system shape.nodes) shape run)
    (All-weaker (IsFaithful (endpoints_of watched.world) watched.given) IsInRange
    (λ m faithful. packet_range shape run (pairs_after shape run) m together is faithful) watched.world.packets together.links.linked.faithful)

-- the law of what was given
pub given_is_in_range : GivenIsInRange
given_is_in_range shape run from to size wide unspent =
    All-weaker (λ (message : Tagged). IsGiven shape.nodes from to message.content) (λ (message : Tagged). IsContent message.content) (λ message is. is.0)
    ((watched_after (system shape.nodes) shape run).given from to) ((every_run shape size run wide unspent).given from to)
