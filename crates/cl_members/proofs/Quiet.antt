-- At a quiet moment of a run nothing is on its way.
use Rattle.std.proofs.Common.{◌≡◌, ℕ, ◌<◌, nat_lt, cond, Bool, true, false, inl, inr, List, [], ◌∷◌, ◌++◌, All, Option, Some, None, refl, sym, ap}
use Rattle.std.proofs.Common.{◌∙◌, subst, arith}
use Rattle.std.proofs.lemmas.Bool.{cond_both, ltb-true, cases_eq}
use Rattle.std.proofs.lemmas.List.Elements.{All-head}
use Rattle.cl_actor.specs.Acting.{is_now}
use Rattle.cl_cluster.proofs.Nodes.{pair_receiver_below}
use Rattle.cl_cluster.specs.Alike.{pair_events_of, pairs_after}
use Rattle.cl_endpoint.specs.Endpoint.{received}
use Rattle.cl_log.specs.declared.records.LogRec.{LogRec}
use Rattle.cl_log.specs.declared.records.LogRec.TheVariants.{Decide}
use Rattle.cl_log.specs.Open.{is_among}
use Rattle.cl_members.proofs.Cores.{pair_run}
use Rattle.cl_members.proofs.Longer.{cores, world_of, event_after, events_push}
use Rattle.cl_members.proofs.Runs.{seen_run}
use Rattle.cl_members.specs.Events.{firm_events_of}
use Rattle.cl_members.specs.Laws.{QuietEmptiesMail, RunsAreQuiet}
use Rattle.cl_node.specs.Members.{standby_node}
use Rattle.cl_paired.specs.Paired.{untold}
use Rattle.cl_pairs.proofs.Streams.{pairs_are_one_log, all_is_acknowledged}
use Rattle.cl_pairs.specs.Pairs.{PairWorld, after_pair_event}
use Rattle.cl_roster.specs.declared.entry.RosterEntry.{RosterEntry}
use Rattle.cl_roster.specs.Roster.{IsClusterSize, has_stopped}
use Rattle.cl_runs.proofs.NeverStops.{nobody_stops}
use Rattle.cl_runs.proofs.Runs.{runs_go_on, runs_are_wide, quiet_empties_queues}
use Rattle.cl_runs.specs.Queues.{contents_of, QueueEvent, deliver, take_line, quieten, nothing, event_on, queue_event_of, queue_events_of, sent_to}
use Rattle.cl_runs.specs.World.{Shape, World, IsLiving, Happening, handle, quiet, Run, packet_at, first_world, after_event, EachMayHappen}
use Rattle.cl_runs.specs.World.{IsEnabled, IsQuiet, IsTimely, IsRun, IsWideRun}
use Rattle.cl_seen.proofs.EveryRun.{pair_messages_are_addressed}
use Rattle.cl_seen.proofs.Quiet.{nothing_to_tell}
use Rattle.cl_seen.proofs.Runs.{each_append, holds_of_all, none_sent}
use Rattle.cl_seen.specs.Seen.{outward, to_tell, joins_of, seen_delivery, seen_event, seen_events}
use Rattle.cl_seen.specs.Ways.{IsPairAddressed}
use Rattle.cl_steps.specs.declared.actors.TheConstants.{FRONT}
use Rattle.cl_steps.specs.declared.steps.Outgoing.{Outgoing}
use Rattle.cl_system.specs.Firm.{FirmWorld, FirmEvent, join, after_firm_event, first_firm_world, firm_world_after, IsQuietly, AreQuiet}
use Rattle.cl_system.specs.Replicas.{own_primary}
use Rattle.cl_system.specs.System.{Core}
use Rattle.cl_types.specs.declared.operations.TxnId.{TxnId}
use Rattle.cl_wire.specs.Message.{Content, Log, LogAck, Message}

-- the law of pairs
pub quiet_empties_mail : QuietEmptiesMail
quiet_empties_mail shape run size is quiets from to = by ((pairs_after shape run).mail from to) refl
  where
    -- the run is a wide one
    wide : IsWideRun (cores shape) shape run
    wide = runs_are_wide (cores shape) shape run is

    -- nobody has stopped
    unstopped : has_stopped (world_of shape run).roster to ≡ false
    unstopped = ap (λ (roster : List RosterEntry). has_stopped roster to) (nobody_stops (cores shape) shape run size wide (λ known state n. refl)).roster

    -- nothing is on its way to who lives
    lives_empty : IsLiving shape (world_of shape run).roster to → (pairs_after shape run).mail from to ≡ []
    lives_empty lives =
        sym ((pair_run shape run size wide).alike.mail from to)
        ∙ ap contents_of (quiet_empties_queues (cores shape) shape run size wide quiets from to lives)

    -- the receiver of a message is the front or a node
    receiver_lives : (content : Content) → IsPairAddressed shape.nodes from to content → IsLiving shape (world_of shape run).roster to
    receiver_lives content addressed = elim (cases_eq to FRONT) [
      | inl front ↦ inl front
      | inr apart ↦ inr (let node = pair_receiver_below shape.nodes from to content size.counted apart addressed in (omega (arith, node), unstopped))
    ]

    by : (queue : List Content) → (pairs_after shape run).mail from to ≡ queue → (pairs_after shape run).mail from to ≡ []
    by [] waits = waits
    by (content ∷ rest) waits =
        lives_empty (receiver_lives content
        (All-head (IsPairAddressed shape.nodes from to) content rest
        (subst (All (IsPairAddressed shape.nodes from to)) waits
        (pair_messages_are_addressed shape (pair_events_of shape run) size (pair_run shape run size wide).is from to))))

module _ (shape : Shape) where
  -- what joins is no quiet moment
  joins_quiet : (history : List TxnId) (entry : LogRec) (state : FirmWorld) → EachMayHappen IsQuietly (after_firm_event shape) (joins_of history entry) state
  joins_quiet history (Decide txn) state =
      cond_both (is_among txn history) [] (join txn ∷ []) (λ (events : List FirmEvent). EachMayHappen IsQuietly (after_firm_event shape) events state)
      (λ member. tt) (λ new. (tt, tt))
  joins_quiet history entry state = tt

  -- nor is what comes
  delivery_quiet : (before after : PairWorld) (from to : ℕ) (mark : Bool) (queue : List Content) (state : FirmWorld) →
      EachMayHappen IsQuietly (after_firm_event shape) (seen_delivery shape before after (deliver from to mark) queue) state
  delivery_quiet before after from to mark [] state = tt
  delivery_quiet before after from to mark (Log v number entry ∷ rest) state = joins_quiet before.history entry state
  delivery_quiet before after from to mark (LogAck v number ∷ rest) state = tt
  delivery_quiet before after from to mark (content ∷ rest) state = (tt, (tt, tt))

  -- what an event is for the firm system is quiet, if it is where nothing is on its way
  event_quiet : (pairs : PairWorld) (event : QueueEvent) (state : FirmWorld) → (event ≡ quieten → (from to : ℕ) → state.world.mail from to ≡ []) →
      EachMayHappen IsQuietly (after_firm_event shape) (seen_event shape pairs event) state
  unfolding seen_event
  event_quiet pairs (deliver from to mark) state empty =
      delivery_quiet pairs (after_pair_event shape pairs (deliver from to mark)) from to mark (pairs.mail from to) state
  event_quiet pairs (take_line number text said) state empty = (tt, tt)
  event_quiet pairs quieten state empty = (empty refl, tt)
  event_quiet pairs other state empty = tt

  module _ (size : IsClusterSize shape.nodes shape.spares) where
    -- at a quiet moment nobody has anything to tell
    nobody_tells : (run : Run) → IsRun (cores shape) shape run → IsQuiet (cores shape) shape (world_of shape run) → (from to : ℕ) →
        to_tell shape.nodes (pairs_after shape run) from to ≡ []
    nobody_tells run is quiets from to = by (nat_lt from shape.nodes) refl
      where
        -- the run is a wide one
        wide : IsWideRun (cores shape) shape run
        wide = runs_are_wide (cores shape) shape run is

        -- a primary has told all
        all_told : from < shape.nodes → untold own_primary ((pairs_after shape run).primaries from) ≡ []
        all_told below =
            nothing_to_tell shape (pairs_after shape run) from ((seen_run shape run size wide).paired from below)
            (all_is_acknowledged shape (pairs_after shape run) from
            (pairs_are_one_log shape (pair_events_of shape run) size (pair_run shape run size wide).is from below)
            (quiet_empties_mail shape run size is quiets from (standby_node shape.nodes from))
            (quiet_empties_mail shape run size is quiets (standby_node shape.nodes from) from))

        by : (node : Bool) → nat_lt from shape.nodes ≡ node → cond node (sent_to to (untold own_primary ((pairs_after shape run).primaries from))) [] ≡ []
        by true is = ap (λ (sends : List Outgoing). sent_to to sends) (all_told (ltb-true from shape.nodes is)) ∙ none_sent to
        by false is = refl

    -- so in the firm system nothing is on its way
    nothing_waits : (run : Run) → IsRun (cores shape) shape run → IsQuiet (cores shape) shape (world_of shape run) → (from to : ℕ) →
        (firm_world_after shape (firm_events_of shape run)).world.mail from to ≡ []
    nothing_waits run is quiets from to =
        (seen_run shape run size (runs_are_wide (cores shape) shape run is)).mail from to
        ∙ ap (λ (messages : List Content). outward messages ++ to_tell shape.nodes (pairs_after shape run) from to)
        (quiet_empties_mail shape run size is quiets from to)
        ∙ nobody_tells run is quiets from to

    module _ (run : Run) (event : Happening × Bool) (longer : IsRun (cores shape) shape (run ++ event ∷ [])) where
      -- the run, and what may happen after it
      both : IsRun (cores shape) shape run × IsEnabled (cores shape) shape (world_of shape run) event.0
      both = (runs_go_on (cores shape) shape run event.0 event.1).enabled.0 longer

      -- a packet is no quiet moment
      packet_stays : (actor : ℕ) (found : Option Message) → event_on (world_of shape run) actor event.1 found ≡ quieten → (from to : ℕ) →
          (firm_world_after shape (firm_events_of shape run)).world.mail from to ≡ []
      packet_stays actor None = λ same. absurd cc
      packet_stays actor (Some m) =
          cond_both (is_now (received ((world_of shape run).actors actor).endpoint m.from m.seq)) (deliver m.from actor event.1) nothing
          (λ (e : QueueEvent). e ≡ quieten → (from to : ℕ) → (firm_world_after shape (firm_events_of shape run)).world.mail from to ≡ [])
          (λ now same. absurd cc) (λ later same. absurd cc)

      -- where a quiet moment is noted nothing is on its way
      quietly : (happening : Happening) → event.0 ≡ happening → queue_event_of (world_of shape run) happening event.1 ≡ quieten → (from to : ℕ) →
          (firm_world_after shape (firm_events_of shape run)).world.mail from to ≡ []
      unfolding queue_event_of
      quietly (handle actor id) is = packet_stays actor (packet_at (world_of shape run) id)
      quietly quiet is = λ same. nothing_waits run both.0 (subst (IsTimely (cores shape) shape (world_of shape run)) is both.1.timely)
      quietly other is = λ same. absurd cc

      -- so the quiet moments of the run with this event are quiet
      quiet_more : AreQuiet shape (firm_events_of shape run) → AreQuiet shape (firm_events_of shape (run ++ event ∷ []))
      unfolding firm_world_after
      quiet_more so =
          subst (AreQuiet shape) (sym (events_push shape run event))
          (each_append IsQuietly (after_firm_event shape) (firm_events_of shape run)
          (seen_event shape (pairs_after shape run) (event_after shape run event)) (first_firm_world shape) so
          (event_quiet (pairs_after shape run) (event_after shape run event) (firm_world_after shape (firm_events_of shape run))
          (quietly event.0 refl)))

-- the law of quiet moments
pub runs_are_quiet : RunsAreQuiet
unfolding IsRun seen_events queue_events_of
runs_are_quiet shape run size is =
    holds_of_all (λ (world : World Core) (event : Happening × Bool). IsEnabled (cores shape) shape world event.0)
    (after_event (cores shape)) (first_world (cores shape) shape)
    (λ (events : Run). AreQuiet shape (firm_events_of shape events)) (quiet_more shape size) tt run is
