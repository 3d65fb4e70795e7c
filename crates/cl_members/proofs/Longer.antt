-- What one event more of a run is for pairs and for the firm system.
use Rattle.std.proofs.Common.{◌≡◌, Bool, [], ◌∷◌, ◌++◌, refl, ap, ◌∙◌}
use Rattle.std.specs.List.{fold}
use Rattle.cl_cluster.specs.Alike.{pair_events_of, pairs_after}
use Rattle.cl_members.specs.Events.{firm_events_of}
use Rattle.cl_members.specs.Laws.{EventsGoOn}
use Rattle.cl_pairs.specs.Pairs.{first_pair_world, pair_world_after}
use Rattle.cl_runs.specs.Queues.{QueueEvent, queue_event_of, queue_events_from, queue_events_of}
use Rattle.cl_runs.specs.World.{Cores, Shape, World, Happening, Run, first_world, after_event, world_after}
use Rattle.cl_seen.proofs.Runs as of_pairs
use Rattle.cl_seen.specs.Seen.{seen_event, seen_from, seen_events}
use Rattle.cl_system.specs.Firm.{after_firm_event, firm_world_after}
use Rattle.cl_system.specs.System.{Core, system}

-- the events of a run and more
run_append : (cores : Cores Core) (run more : Run) (world : World Core) →
    queue_events_from cores (run ++ more) world ≡ queue_events_from cores run world ++ queue_events_from cores more (fold (after_event cores) world run)
run_append cores [] more world = refl
run_append cores (event ∷ run) more world = ap (λ list. queue_event_of world event.0 event.1 ∷ list) (run_append cores run more (after_event cores world event))

module _ (shape : Shape) where
  -- what the actors decide
  abbrev pub cores : Cores Core
  cores = system shape.nodes

  -- the cluster after a run
  abbrev pub world_of : Run → World Core
  world_of run = world_after cores shape run

  -- what an event of a run is for cores and queues, and so for pairs
  abbrev pub event_after : Run → Happening × Bool → QueueEvent
  event_after run event = queue_event_of (world_of run) event.0 event.1

  -- what more events of a run are for the firm system
  firm_append : (run more : Run) →
      firm_events_of shape (run ++ more) ≡ firm_events_of shape run ++ seen_from shape (queue_events_from cores more (world_of run)) (pairs_after shape run)
  unfolding queue_events_of world_after seen_events pair_world_after
  firm_append run more =
      ap (λ events. seen_from shape events (first_pair_world shape)) (run_append cores run more (first_world cores shape))
      ∙ of_pairs.seen_append shape (queue_events_from cores run (first_world cores shape))
      (queue_events_from cores more (fold (after_event cores) (first_world cores shape) run)) (first_pair_world shape)

  module _ (run : Run) (event : Happening × Bool) where
    -- what one event more is for pairs
    queue_push : pair_events_of shape (run ++ event ∷ []) ≡ pair_events_of shape run ++ event_after run event ∷ []
    unfolding queue_events_of world_after
    queue_push = run_append cores run (event ∷ []) (first_world cores shape)

    -- what it is for the firm system
    pub events_push : firm_events_of shape (run ++ event ∷ []) ≡ firm_events_of shape run ++ seen_event shape (pairs_after shape run) (event_after run event)
    events_push = ap (seen_events shape) queue_push ∙ of_pairs.seen_push shape (pair_events_of shape run) (event_after run event)

    -- the firm system after it
    pub firm_push : firm_world_after shape (firm_events_of shape (run ++ event ∷ []))
        ≡ fold (after_firm_event shape) (firm_world_after shape (firm_events_of shape run)) (seen_event shape (pairs_after shape run) (event_after run event))
    firm_push = ap (λ events. firm_world_after shape (seen_events shape events)) queue_push
        ∙ of_pairs.firm_push shape (pair_events_of shape run) (event_after run event)

-- the law
pub events_go_on : EventsGoOn
events_go_on shape run more =
    (seen_from shape (queue_events_from (cores shape) more (world_of shape run)) (pairs_after shape run), firm_append shape run more)
