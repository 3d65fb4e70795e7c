-- A message that comes is one whose packet an event of the run with the same mark handles.
use Rattle.std.proofs.Common.{◌≡◌, ℕ, ◌-◌, Bool, true, false, cond, ◌⊎◌, inl, inr, List, [], ◌∷◌, ◌++◌, append_assoc, length, map, Option, Some, None}
use Rattle.std.proofs.Common.{refl, sym, ap, ◌∙◌, subst}
use Rattle.std.specs.List.{Contains, fold}
use Rattle.std.proofs.lemmas.Bool.{false≢true}
use Rattle.std.proofs.lemmas.List.{append-nil}
use Rattle.std.proofs.lemmas.List.Elements.{All-contains_itself}
use Rattle.std.proofs.lemmas.List.Sums.{fold-append}
use Rattle.cl_actor.specs.Acting.{is_now}
use Rattle.cl_cluster.specs.Alike.{pairs_after}
use Rattle.cl_endpoint.specs.declared.received.Received.{Received}
use Rattle.cl_endpoint.specs.declared.received.Received.TheVariants.{Now}
use Rattle.cl_endpoint.specs.Endpoint.{received}
use Rattle.cl_link.proofs.Indices.{All-slice_get}
use Rattle.cl_log.specs.declared.records.LogRec.{LogRec}
use Rattle.cl_log.specs.declared.records.LogRec.TheVariants.{Decide}
use Rattle.cl_log.specs.Open.{is_among}
use Rattle.cl_members.proofs.Cores.{pair_run}
use Rattle.cl_members.proofs.Longer.{cores, world_of, event_after, events_push, firm_push}
use Rattle.cl_members.proofs.Runs.{seen_run, runs_are_firm_runs}
use Rattle.cl_members.specs.Laws.{IsMarkedIn, MarksAreOfRuns}
use Rattle.cl_members.specs.Events.{firm_events_of}
use Rattle.cl_members.specs.Members.{transcript_after}
use Rattle.cl_pairs.specs.Pairs.{PairWorld, after_pair_event}
use Rattle.cl_roster.specs.Roster.{IsClusterSize}
use Rattle.cl_runs.proofs.Runs.{runs_go_on, accepted_is_head}
use Rattle.cl_runs.specs.Laws.{IsHead}
use Rattle.cl_runs.specs.Queues.{Tagged, contents_of, watched_after, queue_world_of}
use Rattle.cl_runs.specs.Queues.{QueueEvent, deliver, take_line, quieten, nothing, event_on, queue_event_of, queue_events_of}
use Rattle.cl_runs.specs.World.{Shape, Happening, handle, Run, packet_at, World}
use Rattle.cl_runs.specs.World.{first_world, after_event, IsEnabledWidely, MayHandle, IsWideRun}
use Rattle.cl_seen.proofs.Lists.{outward_one}
use Rattle.cl_seen.proofs.Runs.{holds_of_all}
use Rattle.cl_seen.specs.Seen.{is_internal, outward, to_tell, seen_mail, joins_of, seen_delivery, seen_event, seen_events}
use Rattle.cl_shown.specs.Laws.{transcript_of_firm}
use Rattle.cl_system.specs.Firm.{FirmWorld, FirmEvent, happens, reorder, join, after_firm_event, first_firm_world, firm_world_after}
use Rattle.cl_system.specs.Replicas.{Mail}
use Rattle.cl_system.specs.System.{Core}
use Rattle.cl_types.specs.declared.operations.TxnId.{TxnId}
use Rattle.cl_wire.specs.Message.{Content, Log, LogAck, Message}

-- ---- lists

-- the first event of a list, or another one where it is empty
first_or : FirmEvent → List FirmEvent → FirmEvent
first_or other [] = other
first_or other (event ∷ events) = event

-- the events behind the first
rest_of : List FirmEvent → List FirmEvent
rest_of [] = []
rest_of (event ∷ events) = events

-- an event of two lists is one of the first, or one of the second
abbrev IsOfEither : List FirmEvent → List FirmEvent → List FirmEvent → FirmEvent → List FirmEvent → Type 0
IsOfEither events more front event back =
    ((tail : List FirmEvent) × (events ≡ front ++ event ∷ tail)) ⊎ ((head : List FirmEvent) × (front ≡ events ++ head) × (more ≡ head ++ event ∷ back))

-- so it is of any two lists
of_either : (events more front : List FirmEvent) (event : FirmEvent) (back : List FirmEvent) → events ++ more ≡ front ++ event ∷ back →
    IsOfEither events more front event back
unfolding first_or rest_of
of_either [] more front event back is = inr (front, refl, is)
of_either (first ∷ events) more [] event back is = inl (events, ap (λ e. e ∷ events) (ap (first_or first) is))
of_either (first ∷ events) more (other ∷ front) event back is =
    let same : first ≡ other = ap (first_or first) is in
    elim (of_either events more front event back (ap rest_of is)) [
      | inl here ↦ inl (here.0, ap (λ e. e ∷ events) same ∙ ap (λ list. other ∷ list) here.1)
      | inr there ↦ inr (there.0, ap (λ e. e ∷ front) (sym same) ∙ ap (λ list. first ∷ list) there.1, there.2)
    ]

-- ---- where an event of the system stands

-- none of those that join is an event of the system
joins_only : (txns : List TxnId) (front : List FirmEvent) (event : QueueEvent) (back : List FirmEvent) → map join txns ≡ front ++ happens event ∷ back → ⊥
unfolding rest_of
joins_only [] [] event back is = absurd cc
joins_only [] (other ∷ front) event back is = absurd cc
joins_only (txn ∷ txns) [] event back is = absurd cc
joins_only (txn ∷ txns) (other ∷ front) event back is = joins_only txns front event back (ap rest_of is)

-- so what a log record makes firm has none
record_joins : (history : List TxnId) (entry : LogRec) (front : List FirmEvent) (event : QueueEvent) (back : List FirmEvent) →
    joins_of history entry ≡ front ++ happens event ∷ back → ⊥
record_joins history (Decide txn) front event back =
    elim (is_among txn history) as (λ b. cond b [] (join txn ∷ []) ≡ front ++ happens event ∷ back → ⊥) [
      | true ↦ joins_only [] front event back
      | false ↦ joins_only (txn ∷ []) front event back
    ]
record_joins history entry front event back = joins_only [] front event back

-- an event alone is the one that stands there
alone_is : (here : QueueEvent) (front : List FirmEvent) (event : QueueEvent) (back : List FirmEvent) → happens here ∷ [] ≡ front ++ happens event ∷ back →
    here ≡ event
unfolding first_or rest_of
alone_is here [] event back is = (let same : happens here ≡ happens event = ap (first_or (happens here)) is in cc)
alone_is here (other ∷ front) event back is = absurd (joins_only [] front event back (ap rest_of is))

-- another order is no event of the system
order_only : (mail : Mail) (front : List FirmEvent) (event : QueueEvent) (back : List FirmEvent) → reorder mail ∷ [] ≡ front ++ happens event ∷ back → ⊥
unfolding rest_of
order_only mail [] event back is = absurd cc
order_only mail (other ∷ front) event back is = joins_only [] front event back (ap rest_of is)

-- so the event before it is the one that stands there, and it stands first
first_only : (here : QueueEvent) (mail : Mail) (front : List FirmEvent) (event : QueueEvent) (back : List FirmEvent) →
    happens here ∷ reorder mail ∷ [] ≡ front ++ happens event ∷ back → (front ≡ []) × (here ≡ event)
unfolding first_or rest_of
first_only here mail [] event back is = (refl, (let same : happens here ≡ happens event = ap (first_or (happens here)) is in cc))
first_only here mail (other ∷ front) event back is = absurd (order_only mail front event back (ap rest_of is))

-- the block of an event begins with the coming of a message, which is none between a primary and its standby, and ends with another order
record IsOutward (block : List FirmEvent) (event : QueueEvent) (messages : List Content) (front : List FirmEvent) (at : QueueEvent) : Type 0 where
  first : front ≡ []
  same : event ≡ at
  content : Content
  rest : List Content
  waits : messages ≡ content ∷ rest
  out : is_internal content ≡ false
  order : Mail
  whole : block ≡ happens event ∷ reorder order ∷ []

-- so it is of a message whose coming has an event of the system
delivery_outward : (shape : Shape) (before after : PairWorld) (event : QueueEvent) (messages : List Content)
    (front : List FirmEvent) (at : QueueEvent) (back : List FirmEvent) → seen_delivery shape before after event messages ≡ front ++ happens at ∷ back →
    IsOutward (seen_delivery shape before after event messages) event messages front at
delivery_outward shape before after event [] front at back is = absurd (joins_only [] front at back is)
delivery_outward shape before after event (Log v number entry ∷ rest) front at back is = absurd (record_joins before.history entry front at back is)
delivery_outward shape before after event (LogAck v number ∷ rest) front at back is = absurd (joins_only [] front at back is)
delivery_outward shape before after event (content ∷ rest) front at back is =
    let only = first_only event (seen_mail shape.nodes after) front at back is in
    record {
      first = only.0;
      same = only.1;
      content = content;
      rest = rest;
      waits = refl;
      out = refl;
      order = seen_mail shape.nodes after;
      whole = refl;
    }

-- what is on its way, by equal actors
moved_mail : (mail : Mail) (a b c d : ℕ) (list : List Content) → a ≡ c → b ≡ d → mail a b ≡ list → mail c d ≡ list
moved_mail mail a b c d list first second is = ap (λ n. mail n d) (sym first) ∙ (ap (mail a) (sym second) ∙ is)

-- so it is of an event of pairs that has the coming of a message in its block
event_outward : (shape : Shape) (pairs : PairWorld) (event : QueueEvent) (front : List FirmEvent) (from to : ℕ) (mark : Bool) (back : List FirmEvent) →
    seen_event shape pairs event ≡ front ++ happens (deliver from to mark) ∷ back →
    IsOutward (seen_event shape pairs event) event (pairs.mail from to) front (deliver from to mark)
unfolding seen_event
event_outward shape pairs (deliver a b other) front from to mark back is =
    let came : IsOutward (seen_event shape pairs (deliver a b other)) (deliver a b other) (pairs.mail a b) front (deliver from to mark)
    = delivery_outward shape pairs (after_pair_event shape pairs (deliver a b other)) (deliver a b other) (pairs.mail a b) front (deliver from to mark) back is in
    let same : deliver a b other ≡ deliver from to mark = came.same in
    let giver : a ≡ from = cc in
    let receiver : b ≡ to = cc in
    record {
      first = came.first;
      same = same;
      content = came.content;
      rest = came.rest;
      waits = moved_mail pairs.mail a b from to (came.content ∷ came.rest) giver receiver came.waits;
      out = came.out;
      order = came.order;
      whole = came.whole;
    }
event_outward shape pairs (take_line number text said) front from to mark back is =
    let same : take_line number text said ≡ deliver from to mark = alone_is (take_line number text said) front (deliver from to mark) back is in absurd cc
event_outward shape pairs quieten front from to mark back is =
    let same : quieten ≡ deliver from to mark = alone_is quieten front (deliver from to mark) back is in absurd cc
event_outward shape pairs other front from to mark back is = absurd (joins_only [] front (deliver from to mark) back is)

-- ---- one event more

-- what is taken at once was received so
now_from : (seen : Received) → is_now seen ≡ true → seen ≡ Now
now_from Now is = refl
now_from other is = absurd (false≢true is)

-- the messages of a queue that begins with a packet's
head_waits : (queue : List Tagged) (here : List Content) (m : Message) → contents_of queue ≡ here → (head : IsHead queue m) →
    here ≡ m.content ∷ contents_of head.rest
head_waits queue here m same head = sym same ∙ ap contents_of head.waits

-- another order behind an event leaves the transcript as it is after that event
written_after : (shape : Shape) (events : List FirmEvent) (event : QueueEvent) (order : Mail) →
    (fold (after_firm_event shape) (firm_world_after shape events) (happens event ∷ reorder order ∷ [])).world.front.transcript
    ≡ transcript_of_firm shape (events ++ happens event ∷ [])
unfolding firm_world_after after_firm_event
written_after shape events event order =
    ap (λ (state : FirmWorld). state.world.front.transcript)
    (sym (fold-append (after_firm_event shape) (first_firm_world shape) events (happens event ∷ [])))

-- an event of a run handles the packet whose message comes
record IsHandled (shape : Shape) (run : Run) (event : Happening × Bool) (from to : ℕ) (mark : Bool) : Type 0 where
  id : ℕ
  packet : Message
  rest : List Content
  happened : event ≡ (handle to id, mark)
  handles : packet_at (world_of shape run) id ≡ Some packet
  head : (pairs_after shape run).mail from to ≡ packet.content ∷ rest

module _ (shape : Shape) (size : IsClusterSize shape.nodes shape.spares) where
  -- what is left to be shown of a run
  abbrev AreMarked : Run → Type 0
  AreMarked run =
      (front back : List FirmEvent) (from to : ℕ) (mark : Bool) → firm_events_of shape run ≡ front ++ happens (deliver from to mark) ∷ back →
      IsMarkedIn shape run front from to mark

  -- no event is in the empty run
  marked_first : AreMarked []
  unfolding seen_events queue_events_of
  marked_first front back from to mark is = absurd (joins_only [] front (deliver from to mark) back is)

  module _ (run : Run) (event : Happening × Bool) (longer : IsWideRun (cores shape) shape (run ++ event ∷ [])) where
    -- the run, and what may happen after it
    both : IsWideRun (cores shape) shape run × IsEnabledWidely shape (world_of shape run) event.0
    both = (runs_go_on (cores shape) shape run event.0 event.1).enabled_widely.0 longer

    -- what comes in an earlier event
    marked_before : (front : List FirmEvent) (from to : ℕ) (mark : Bool) → IsMarkedIn shape run front from to mark →
        IsMarkedIn shape (run ++ event ∷ []) front from to mark
    marked_before front from to mark is = record {
      before = is.before;
      after = is.after ++ event ∷ [];
      id = is.id;
      packet = is.packet;
      rest = is.rest;
      split = ap (λ list. list ++ event ∷ []) is.split ∙ append_assoc is.before ((handle to is.id, mark) ∷ is.after) (event ∷ []);
      events = is.events;
      handles = is.handles;
      head = is.head;
      written = is.written;
    }

    -- the head of a queue is the message of the packet that is accepted now
    head_is : (actor id : ℕ) → event.0 ≡ handle actor id → (m : Message) → packet_at (world_of shape run) id ≡ Some m →
        is_now (received ((world_of shape run).actors actor).endpoint m.from m.seq) ≡ true →
        (rest : List Content) × ((pairs_after shape run).mail m.from actor ≡ m.content ∷ rest)
    head_is actor id is m found now =
        let packets : List Message = (world_of shape run).packets in
        let handles : MayHandle shape (world_of shape run) actor id = subst (IsEnabledWidely shape (world_of shape run)) is both.1 in
        let same : handles.packet ≡ m = (let emitted = handles.emitted in cc) in
        let here : m.to ≡ actor = ap (λ (p : Message). p.to) (sym same) ∙ handles.addressed in
        let emitted : Contains packets m = All-slice_get (Contains packets) packets (id - 1) m (All-contains_itself packets) found in
        let head : IsHead ((queue_world_of (watched_after (cores shape) shape run)).queues m.from m.to) m
        = accepted_is_head (cores shape) shape run size both.0 m emitted
        (ap (λ n. received ((world_of shape run).actors n).endpoint m.from m.seq) here ∙ now_from _ now) in
        let waits = head_waits _ _ m ((pair_run shape run size both.0).alike.mail m.from m.to) head in
        (contents_of head.rest, subst (λ n. (pairs_after shape run).mail m.from n ≡ m.content ∷ contents_of head.rest) here waits)

    -- what is left to be shown of what the event is for cores and queues
    abbrev AreHandled : QueueEvent → Type 0
    AreHandled here = (from to : ℕ) (mark : Bool) → here ≡ deliver from to mark → IsHandled shape run event from to mark

    -- a packet, taken at once or not
    packet_handled : (actor id : ℕ) → event.0 ≡ handle actor id → (m : Message) → packet_at (world_of shape run) id ≡ Some m → (now : Bool) →
        is_now (received ((world_of shape run).actors actor).endpoint m.from m.seq) ≡ now → AreHandled (cond now (deliver m.from actor event.1) nothing)
    packet_handled actor id is m found false now from to mark delivers = absurd cc
    packet_handled actor id is m found true now from to mark delivers =
        let giver : m.from ≡ from = cc in
        let receiver : actor ≡ to = cc in
        let marked : event.1 ≡ mark = cc in
        let head = head_is actor id is m found now in
        record {
          id = id;
          packet = m;
          rest = head.0;
          happened = ap (λ (happening : Happening). (happening, event.1)) is
              ∙ ap (λ n. (handle n id, event.1)) receiver ∙ ap (λ other. (handle to id, other)) marked;
          handles = found;
          head = moved_mail (pairs_after shape run).mail m.from actor from to (m.content ∷ head.0) giver receiver head.1;
        }

    -- a packet, if there is one
    event_handled : (actor id : ℕ) → event.0 ≡ handle actor id → (found : Option Message) → packet_at (world_of shape run) id ≡ found →
        AreHandled (event_on (world_of shape run) actor event.1 found)
    event_handled actor id is None found = λ from to mark delivers. absurd cc
    event_handled actor id is (Some m) found =
        packet_handled actor id is m found (is_now (received ((world_of shape run).actors actor).endpoint m.from m.seq)) refl

    -- whatever happens
    happening_handled : (happening : Happening) → event.0 ≡ happening → AreHandled (queue_event_of (world_of shape run) happening event.1)
    unfolding queue_event_of
    happening_handled (handle actor id) is = event_handled actor id is (packet_at (world_of shape run) id) refl
    happening_handled other is = λ from to mark delivers. absurd cc

    -- what comes in this event
    marked_here : (from to : ℕ) (mark : Bool) (front : List FirmEvent) →
        IsOutward (seen_event shape (pairs_after shape run) (event_after shape run event)) (event_after shape run event) ((pairs_after shape run).mail from to)
        front (deliver from to mark) → IsMarkedIn shape (run ++ event ∷ []) (firm_events_of shape run) from to mark
    marked_here from to mark front came =
        let pairs : PairWorld = pairs_after shape run in
        let handled : IsHandled shape run event from to mark = happening_handled event.0 refl from to mark came.same in
        let out : is_internal handled.packet.content ≡ false
        = (let here = came.waits in let waits = handled.head in let outer = came.out in cc) in
        record {
          before = run;
          after = [];
          id = handled.id;
          packet = handled.packet;
          rest = outward handled.rest ++ to_tell shape.nodes pairs from to;
          split = ap (λ e. run ++ e ∷ []) handled.happened;
          events = refl;
          handles = handled.handles;
          head = (seen_run shape run size both.0).mail from to
              ∙ ap (λ messages. outward messages ++ to_tell shape.nodes pairs from to) handled.head
              ∙ ap (λ messages. messages ++ to_tell shape.nodes pairs from to) (outward_one handled.packet.content handled.rest out);
          written = ap length (
              ap (λ e. transcript_after shape (run ++ e ∷ [])) (sym handled.happened)
              ∙ (runs_are_firm_runs shape (run ++ event ∷ []) size longer).transcript
              ∙ ap (λ (state : FirmWorld). state.world.front.transcript) (firm_push shape run event)
              ∙ ap (λ list. (fold (after_firm_event shape) (firm_world_after shape (firm_events_of shape run)) list).world.front.transcript) came.whole
              ∙ written_after shape (firm_events_of shape run) (event_after shape run event) came.order
              ∙ ap (λ e. transcript_of_firm shape (firm_events_of shape run ++ happens e ∷ [])) came.same);
        }

    -- so it is of the run with this event
    marked_more : AreMarked run → AreMarked (run ++ event ∷ [])
    marked_more so front back from to mark is =
        let block : List FirmEvent = seen_event shape (pairs_after shape run) (event_after shape run event) in
        let either : IsOfEither (firm_events_of shape run) block front (happens (deliver from to mark)) back
        = of_either (firm_events_of shape run) block front (happens (deliver from to mark)) back (sym (events_push shape run event) ∙ is) in
        elim either [
          | inl before ↦ marked_before front from to mark (so front before.0 from to mark before.1)
          | inr here ↦
              (let came = event_outward shape (pairs_after shape run) (event_after shape run event) here.0 from to mark back here.2 in
              let whole : firm_events_of shape run ≡ front
              = sym (append-nil (firm_events_of shape run)) ∙ ap (λ list. firm_events_of shape run ++ list) (sym came.first) ∙ sym here.1 in
              subst (λ list. IsMarkedIn shape (run ++ event ∷ []) list from to mark) whole (marked_here from to mark here.0 came))
        ]

  -- so it is of every wide run
  every_marked : (run : Run) → IsWideRun (cores shape) shape run → AreMarked run
  unfolding IsWideRun
  every_marked run wide =
      holds_of_all (λ (world : World Core) (event : Happening × Bool). IsEnabledWidely shape world event.0)
      (after_event (cores shape)) (first_world (cores shape) shape)
      AreMarked marked_more marked_first run wide

-- the law
pub marks_are_of_runs : MarksAreOfRuns
marks_are_of_runs shape run front back from to mark size wide is = every_marked shape size run wide front back from to mark is
