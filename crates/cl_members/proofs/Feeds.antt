-- The lines that a run feeds are those of its events in the firm system.
use Rattle.std.proofs.Common.{◌≡◌, ℕ, Bool, List, [], ◌∷◌, ◌++◌, Option, Some, None, refl, ap, ◌∙◌}
use Rattle.std.specs.List.{flat_map}
use Rattle.std.proofs.lemmas.Bool.{cond_both}
use Rattle.std.proofs.lemmas.Grind.{flat_map-append}
use Rattle.cl_actor.specs.Acting.{is_now}
use Rattle.cl_endpoint.specs.Endpoint.{received}
use Rattle.cl_log.specs.declared.records.LogRec.{LogRec}
use Rattle.cl_log.specs.declared.records.LogRec.TheVariants.{Decide}
use Rattle.cl_log.specs.Open.{is_among}
use Rattle.cl_members.specs.Events.{firm_events_of}
use Rattle.cl_members.specs.Members.{feeds_of, feeds_in}
use Rattle.cl_pairs.specs.Pairs.{PairWorld, after_pair_event, first_pair_world}
use Rattle.cl_runs.specs.Queues.{QueueEvent, deliver, take_line, nothing, event_on, queue_event_of, queue_events_from, queue_events_of}
use Rattle.cl_runs.specs.World.{Shape, World, Happening, handle, feed, Run, packet_at, first_world, after_event}
use Rattle.cl_seen.specs.Seen.{joins_of, seen_delivery, seen_event, seen_from, seen_events}
use Rattle.cl_shown.specs.Laws.{lines_of_firm}
use Rattle.cl_system.specs.Firm.{FirmEvent, happens, join}
use Rattle.cl_system.specs.System.{Core, system}
use Rattle.cl_types.specs.declared.operations.TxnId.{TxnId}
use Rattle.cl_wire.specs.Message.{Content, Log, LogAck, Message}

-- what joins feeds nothing
joins_feed : (history : List TxnId) (entry : LogRec) → flat_map lines_of_firm (joins_of history entry) ≡ []
joins_feed history (Decide txn) =
    cond_both (is_among txn history) [] (join txn ∷ []) (λ (events : List FirmEvent). flat_map lines_of_firm events ≡ []) (λ member. refl) (λ new. refl)
joins_feed history entry = refl

module _ (shape : Shape) where
  -- what comes feeds nothing
  delivery_feeds : (before after : PairWorld) (from to : ℕ) (mark : Bool) (queue : List Content) →
      flat_map lines_of_firm (seen_delivery shape before after (deliver from to mark) queue) ≡ []
  delivery_feeds before after from to mark [] = refl
  delivery_feeds before after from to mark (Log v number entry ∷ rest) = joins_feed before.history entry
  delivery_feeds before after from to mark (LogAck v number ∷ rest) = refl
  delivery_feeds before after from to mark (content ∷ rest) = refl

  -- what an event is for the firm system feeds what the event feeds
  seen_feeds : (pairs : PairWorld) (event : QueueEvent) → flat_map lines_of_firm (seen_event shape pairs event) ≡ lines_of_firm (happens event)
  unfolding seen_event
  seen_feeds pairs (deliver from to mark) =
      delivery_feeds pairs (after_pair_event shape pairs (deliver from to mark)) from to mark (pairs.mail from to)
  seen_feeds pairs (take_line number text said) = refl
  seen_feeds pairs other = refl

module _ (world : World Core) where
  -- a packet feeds nothing
  packet_feeds : (actor : ℕ) (mark : Bool) (packet : Option Message) → lines_of_firm (happens (event_on world actor mark packet)) ≡ []
  packet_feeds actor mark None = refl
  packet_feeds actor mark (Some m) =
      cond_both (is_now (received (world.actors actor).endpoint m.from m.seq)) (deliver m.from actor mark) nothing
      (λ (event : QueueEvent). lines_of_firm (happens event) ≡ []) (λ now. refl) (λ later. refl)

  -- what happens feeds its own line
  happening_feeds : (happening : Happening) (mark : Bool) → lines_of_firm (happens (queue_event_of world happening mark)) ≡ feeds_of happening
  unfolding queue_event_of
  happening_feeds (handle actor id) mark = packet_feeds actor mark (packet_at world id)
  happening_feeds (feed number text said) mark = refl
  happening_feeds other mark = refl

-- from any world on, a run feeds the lines of its events
run_feeds : (shape : Shape) (run : Run) (world : World Core) (pairs : PairWorld) →
    flat_map lines_of_firm (seen_from shape (queue_events_from (system shape.nodes) run world) pairs) ≡ feeds_in run
run_feeds shape [] world pairs = refl
run_feeds shape (event ∷ run) world pairs =
    let next : QueueEvent = queue_event_of world event.0 event.1 in
    let after : World Core = after_event (system shape.nodes) world event in
    let rest : List FirmEvent = seen_from shape (queue_events_from (system shape.nodes) run after) (after_pair_event shape pairs next) in
    flat_map-append lines_of_firm (seen_event shape pairs next) rest
    ∙ ap (λ list. list ++ flat_map lines_of_firm rest) (seen_feeds shape pairs next ∙ happening_feeds world event.0 event.1)
    ∙ ap (λ list. feeds_of event.0 ++ list) (run_feeds shape run after (after_pair_event shape pairs next))

-- a run feeds the lines of its events
pub fed_is : (shape : Shape) (run : Run) → flat_map lines_of_firm (firm_events_of shape run) ≡ feeds_in run
unfolding seen_events queue_events_of
fed_is shape run = run_feeds shape run (first_world (system shape.nodes) shape) (first_pair_world shape)
