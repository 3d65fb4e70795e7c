-- Every run of the cluster is one of pairs, by induction over its events, one more at the end; and each input fits.
use Rattle.std.proofs.Common.{◌≡◌, ◌-◌, List, [], ◌∷◌, ◌++◌, Contains, sym, ap, ◌∙◌, subst, subst₂}
use Rattle.std.proofs.lemmas.List.Elements.{All-contains_itself}
use Rattle.std.proofs.lemmas.List.Sums.{fold-append}
use Rattle.cl_actor.specs.Acting.{HandlingFits}
use Rattle.cl_link.proofs.Indices.{All-slice_get}
use Rattle.cl_pairs.specs.Pairs.{PairWorld, after_pair_event, first_pair_world, pair_world_after, MayPairs, IsPairRun}
use Rattle.cl_roster.specs.Roster.{IsClusterSize}
use Rattle.cl_runs.proofs.Runs.{runs_are_queue_runs, packets_are_faithful}
use Rattle.cl_runs.specs.Laws.{IsFaithful}
use Rattle.cl_runs.specs.Queues.{watched_after, QueueWorld, QueueEvent, after_queue_event, IsQueueEnabled, first_queue_world, queue_world_after, IsQueueRun}
use Rattle.cl_runs.specs.World.{Shape, World, handle, feed, endpoints_of, EachMayHappen, world_after}
use Rattle.cl_seen.proofs.Runs.{each_append, each_parts, holds_of_all, pairs_push}
use Rattle.cl_seen.specs.Laws.{PairInputsFit, PairMessagesAreAddressed}
use Rattle.cl_system.specs.System.{Core, delivered_core, system}
use Rattle.cl_wire.specs.Message.{Message}
use Rattle.cl_cluster.proofs.Alike.{alike_at_first, events_keep_alike, alike_may}
use Rattle.cl_cluster.proofs.Inputs.{packet_fits, feeding_fits}
use Rattle.cl_cluster.specs.Alike.{AreAlike, pair_events_of, pairs_after}
use Rattle.cl_cluster.specs.Fitting.{CoreDeliveryFits}
use Rattle.cl_cluster.specs.Laws.{RunsArePairRuns, EveryInputFits}

-- events of cores and queues are events of pairs, which leave both alike
record AreBoth (shape : Shape) (events : List QueueEvent) : Type 0 where
  is : IsPairRun shape events
  alike : AreAlike shape (queue_world_after (system shape.nodes) shape events) (pair_world_after shape events)

module _ (shape : Shape) (size : IsClusterSize shape.nodes shape.spares) (addressed_all : PairMessagesAreAddressed) where
  -- before any event
  both_first : AreBoth shape []
  unfolding IsPairRun pair_world_after queue_world_after
  both_first = record { is = tt; alike = alike_at_first shape size }

  -- cores and queues after one event more
  queues_push : (events : List QueueEvent) (event : QueueEvent) → queue_world_after (system shape.nodes) shape (events ++ event ∷ [])
      ≡ after_queue_event (system shape.nodes) shape (queue_world_after (system shape.nodes) shape events) event
  unfolding queue_world_after
  queues_push events event = fold-append (after_queue_event (system shape.nodes) shape) (first_queue_world (system shape.nodes)) events (event ∷ [])

  -- after one event more
  both_more : (events : List QueueEvent) (event : QueueEvent) →
      EachMayHappen (IsQueueEnabled shape) (after_queue_event (system shape.nodes) shape) (events ++ event ∷ []) (first_queue_world (system shape.nodes)) →
      AreBoth shape events → AreBoth shape (events ++ event ∷ [])
  unfolding IsPairRun pair_world_after queue_world_after
  both_more events event longer both =
      let cores : QueueWorld Core = queue_world_after (system shape.nodes) shape events in
      let pairs : PairWorld = pair_world_after shape events in
      let enabled : IsQueueEnabled shape cores event
      = (each_parts (IsQueueEnabled shape) (after_queue_event (system shape.nodes) shape) events (event ∷ [])
      (first_queue_world (system shape.nodes)) longer).1.0 in
      let may : MayPairs pairs event = alike_may shape cores pairs event both.alike enabled in
      record {
        is = each_append MayPairs (after_pair_event shape) events (event ∷ []) (first_pair_world shape) both.is (may, tt);
        alike = subst₂ (AreAlike shape) (sym (queues_push events event)) (sym (pairs_push shape events event))
            (events_keep_alike shape cores pairs event size both.alike (addressed_all shape events size both.is) enabled);
      }

  -- so it is after all events
  both_after : (events : List QueueEvent) → IsQueueRun (system shape.nodes) shape events → AreBoth shape events
  unfolding IsQueueRun
  both_after events may =
      holds_of_all (IsQueueEnabled shape) (after_queue_event (system shape.nodes) shape) (first_queue_world (system shape.nodes))
      (AreBoth shape) both_more both_first events may

-- a run of the cluster is one of pairs
pub runs_are_pair_runs : PairMessagesAreAddressed → RunsArePairRuns
runs_are_pair_runs addressed_all shape run size wide =
    let queues = runs_are_queue_runs (system shape.nodes) shape run size wide in
    let both = both_after shape size addressed_all (pair_events_of shape run) queues.enabled in
    record { is = both.is; alike = subst (λ cores. AreAlike shape cores (pairs_after shape run)) (sym queues.same) both.alike }

-- each input fits
pub every_input_fits : PairMessagesAreAddressed → PairInputsFit → EveryInputFits
every_input_fits addressed_all inputs_fit shape run (handle actor id) size wide may =
    let world : World Core = world_after (system shape.nodes) shape run in
    λ m found.
    let same : may.packet ≡ m = (let emitted = may.emitted in cc) in
    let here : m.to ≡ actor = ap (λ (p : Message). p.to) (sym same) ∙ may.addressed in
    let faithful = All-slice_get (IsFaithful (endpoints_of world) (watched_after (system shape.nodes) shape run).given) world.packets (id - 1) m
    (packets_are_faithful (system shape.nodes) shape run size wide) found in
    let emitted : Contains world.packets m = All-slice_get (Contains world.packets) world.packets (id - 1) m (All-contains_itself world.packets) found in
    subst (λ n. HandlingFits (delivered_core n) CoreDeliveryFits (world.actors n) m) here
    (packet_fits shape run size wide (runs_are_pair_runs addressed_all shape run size wide) addressed_all inputs_fit m emitted faithful.sender)
every_input_fits addressed_all inputs_fit shape run (feed number text said) size wide may =
    feeding_fits shape run size wide (runs_are_pair_runs addressed_all shape run size wide) addressed_all inputs_fit number text said may
every_input_fits addressed_all inputs_fit shape run other size wide may = tt
