-- Every run: by induction over its events.
use Rattle.std.proofs.Common.{◌≡◌, ℕ, ◌+◌, Bool, List, [], ◌∷◌, ◌++◌, drop, replicate, refl, ap, sym, ◌∙◌, subst, subst₂, inl, inr, arith}
use Rattle.std.specs.List.{fold, All, Contains}
use Rattle.std.proofs.Math.Path.{fun_ext}
use Rattle.std.proofs.Math.Seq.{drop-nil}
use Rattle.std.proofs.lemmas.Bool.{cases_lt}
use Rattle.std.proofs.lemmas.List.{get_or-replicate, get_or_past, length-replicate}
use Rattle.std.proofs.lemmas.List.Elements.{All-nil, All-contains}
use Rattle.std.proofs.lemmas.List.Sums.{fold-append}
use Rattle.cl_link.specs.LinkState.{LinkState, no_message}
use Rattle.cl_link.proofs.LinkOrders.{order-start}
use Rattle.cl_link.proofs.LinkPairs.{pair-start}
use Rattle.cl_roster.specs.Roster.{IsClusterSize}
use Rattle.cl_roster.proofs.Lawful.{IsLawfulRoster-none}
use Rattle.cl_wire.specs.Message.{Content, Message}
use Rattle.cl_endpoint.specs.declared.limits.TheConstants.{ACTORS}
use Rattle.cl_endpoint.specs.declared.received.Received.TheVariants.{Now}
use Rattle.cl_endpoint.specs.Endpoint.{new_endpoint, link_to, received}
use Rattle.cl_runs.specs.World.{Cores, Shape, World, endpoints_of, IsLiving, Happening, Run, first_world, after_event, EachMayHappen, IsEnabledWidely, IsEnabled, IsQuiet, world_after, IsRun, IsWideRun}
use Rattle.cl_runs.specs.Queues.{Tagged, Watched, after_watched, watched_after, QueueWorld, queue_world_of, after_queue_event, IsQueueEnabled, queue_event_of, queue_events_from, queue_events_of, first_queue_world, queue_world_after, IsQueueRun}
use Rattle.cl_runs.specs.Laws.{IsFaithful, IsShaped, IsLinked, IsQueueStep, IsRunOfQueues, IsHead, IsNotedBy, GoesOn}
use Rattle.cl_runs.proofs.Taking.{AreInOrder, AreAcked}
use Rattle.cl_runs.proofs.Events.{IsSound, sound_event}
use Rattle.cl_runs.proofs.QueueSteps.{same_queue_world, queues_between}
use Rattle.cl_runs.proofs.QueueEvents.{AcceptsHead, accepts_head, queue_whole, queue_event}
use Rattle.cl_runs.proofs.Quiet.{quiet_empties}

-- one event more

may_push : {W E : Type 0} (May : W → E → Type 0) (next : W → E → W) (events : List E) (state : W) (event : E) → EachMayHappen May next (events ++ event ∷ []) state → EachMayHappen May next events state × May (fold next state events) event
may_push May next [] state event may = (tt, may.0)
may_push May next (first ∷ events) state event may = let rest = may_push May next events (next state first) event may.1 in ((may.0, rest.0), rest.1)

push_may : {W E : Type 0} (May : W → E → Type 0) (next : W → E → W) (events : List E) (state : W) (event : E) → EachMayHappen May next events state → May (fold next state events) event → EachMayHappen May next (events ++ event ∷ []) state
push_may May next [] state event may last = (last, tt)
push_may May next (first ∷ events) state event may last = (may.0, push_may May next events (next state first) event may.1 last)

pub runs_go_on : {S : Type 0} (cores : Cores S) (shape : Shape) (run : Run) (happening : Happening) (mark : Bool) → GoesOn cores shape run happening mark
unfolding IsRun IsWideRun world_after watched_after
runs_go_on {S} cores shape run happening mark =
    let first : World S = first_world cores shape in
    let event : Happening × Bool = (happening, mark) in
    record {
      enabled = (
        may_push (λ world e. IsEnabled cores shape world e.0) (after_event cores) run first event,
        λ both. push_may (λ world e. IsEnabled cores shape world e.0) (after_event cores) run first event both.0 both.1,
      );
      enabled_widely = (
        may_push (λ world e. IsEnabledWidely shape world e.0) (after_event cores) run first event,
        λ both. push_may (λ world e. IsEnabledWidely shape world e.0) (after_event cores) run first event both.0 both.1,
      );
      world = fold-append (after_event cores) first run (event ∷ []);
      watched = fold-append (after_watched cores) (record { world = first; given = λ from to. [] }) run (event ∷ []);
    }

-- a run is a wide run

each_wide : {S : Type 0} (cores : Cores S) (shape : Shape) (run : Run) (world : World S) → EachMayHappen (λ world event. IsEnabled cores shape world event.0) (after_event cores) run world →
    EachMayHappen (λ world event. IsEnabledWidely shape world event.0) (after_event cores) run world
each_wide cores shape [] world may = tt
each_wide cores shape (event ∷ run) world may = (may.0.widely, each_wide cores shape run (after_event cores world event) may.1)

pub runs_are_wide : {S : Type 0} (cores : Cores S) (shape : Shape) (run : Run) → IsRun cores shape run → IsWideRun cores shape run
unfolding IsRun IsWideRun
runs_are_wide cores shape run is = each_wide cores shape run (first_world cores shape) is

-- the world beside which the links are watched

world-watched : {S : Type 0} (cores : Cores S) (run : Run) (watched : Watched S) → (fold (after_watched cores) watched run).world ≡ fold (after_event cores) watched.world run
world-watched cores [] watched = refl
world-watched cores (event ∷ run) watched = world-watched cores run (after_watched cores watched event)

pub watching_leaves_world : {S : Type 0} (cores : Cores S) (shape : Shape) (run : Run) → (watched_after cores shape run).world ≡ world_after cores shape run
unfolding watched_after world_after
watching_leaves_world cores shape run = world-watched cores run (record { world = first_world cores shape; given = λ from to. [] })

-- the start

link_to-new : (me nodes spares peer : ℕ) → link_to (new_endpoint me nodes spares) peer ≡ no_message
unfolding new_endpoint
link_to-new me nodes spares peer =
    let all : List (LinkState Content) = replicate ACTORS no_message in
    elim (cases_lt peer ACTORS) [
      | inl within ↦ get_or-replicate ACTORS peer no_message no_message within
      | inr past ↦ get_or_past all peer no_message (omega (arith, length-replicate ACTORS (no_message {B = Content})))
    ]

noted-new : (me nodes spares : ℕ) → (new_endpoint me nodes spares).noted ++ [] ≡ []
unfolding new_endpoint
noted-new me nodes spares = refl

new-shaped : (shape : Shape) (actor : ℕ) → IsShaped shape actor (new_endpoint actor shape.nodes shape.spares)
unfolding new_endpoint
new-shaped shape actor = record { me = refl; nodes = refl; spares = refl; links = length-replicate ACTORS (no_message {B = Content}) }

sound_first : {S : Type 0} (cores : Cores S) (shape : Shape) → IsSound shape (record { world = first_world cores shape; given = λ from to. [] })
sound_first cores shape = record {
  linked = record {
    shaped = new-shaped shape;
    linked = λ from to. record {
      order = subst₂ (AreInOrder []) (sym (link_to-new from shape.nodes shape.spares to)) (sym (link_to-new to shape.nodes shape.spares from)) order-start;
      acks = λ lives. subst₂ AreAcked (sym (link_to-new from shape.nodes shape.spares to)) (sym (link_to-new to shape.nodes shape.spares from)) pair-start.acks;
      tags = All-nil _;
    };
    faithful = All-nil _;
  };
  noted = record { lawful = IsLawfulRoster-none shape.nodes shape.spares; noted = λ actor. ([], noted-new actor shape.nodes shape.spares) };
  known = λ from to. inr refl;
}

queue_world_first : {S : Type 0} (cores : Cores S) (shape : Shape) → queue_world_of (record { world = first_world cores shape; given = λ from to. [] }) ≡ first_queue_world cores
unfolding new_endpoint
queue_world_first cores shape = same_queue_world _ _ refl refl (fun_ext (λ from. fun_ext (λ to. drop-nil _))) refl refl refl

-- every run

sound_fold : {S : Type 0} (cores : Cores S) (shape : Shape) → IsClusterSize shape.nodes shape.spares → (run : Run) (watched : Watched S) → IsSound shape watched →
    EachMayHappen (λ world event. IsEnabledWidely shape world event.0) (after_event cores) run watched.world → IsSound shape (fold (after_watched cores) watched run)
sound_fold cores shape size [] watched sound may = sound
sound_fold cores shape size (event ∷ run) watched sound may =
    sound_fold cores shape size run (after_watched cores watched event) (sound_event cores shape size watched event.0 event.1 sound may.0) may.1

module _ {S : Type 0} (cores : Cores S) (shape : Shape) (run : Run) (size : IsClusterSize shape.nodes shape.spares) (wide : IsWideRun cores shape run) where
  pub sound_run : IsSound shape (watched_after cores shape run)
  unfolding watched_after IsWideRun
  sound_run = sound_fold cores shape size run _ (sound_first cores shape) wide

  -- the same of the world beside which the links are watched
  sound_after : IsSound shape (record { world = world_after cores shape run; given = (watched_after cores shape run).given })
  sound_after = subst (λ world. IsSound shape (record { world = world; given = (watched_after cores shape run).given }))
      (watching_leaves_world cores shape run) sound_run

  pub packets_are_faithful : All (IsFaithful (endpoints_of (world_after cores shape run)) (watched_after cores shape run).given) (world_after cores shape run).packets
  packets_are_faithful = sound_after.linked.faithful

  pub endpoints_are_shaped : (actor : ℕ) → IsShaped shape actor ((world_after cores shape run).actors actor).endpoint
  endpoints_are_shaped = sound_after.linked.shaped

  pub actors_are_linked : (from to : ℕ) → IsLinked (endpoints_of (world_after cores shape run)) (watched_after cores shape run).given from to
  actors_are_linked = sound_after.linked.linked

  pub rosters_are_noted : IsNotedBy shape (world_after cores shape run)
  rosters_are_noted = sound_after.noted

  -- the queues, by the world
  queues-after : (from to : ℕ) → (queue_world_of (watched_after cores shape run)).queues from to
      ≡ queues_between (endpoints_of (world_after cores shape run)) (watched_after cores shape run).given from to
  queues-after from to = ap (λ world. queues_between (endpoints_of world) (watched_after cores shape run).given from to) (watching_leaves_world cores shape run)

  pub accepted_is_head : (m : Message) → Contains (world_after cores shape run).packets m → received ((world_after cores shape run).actors m.to).endpoint m.from m.seq ≡ Now →
      IsHead ((queue_world_of (watched_after cores shape run)).queues m.from m.to) m
  accepted_is_head m emitted now =
      let accepts : AcceptsHead (watched_after cores shape run).given m.to ((world_after cores shape run).actors m.to).endpoint m
      = accepts_head shape (world_after cores shape run) (watched_after cores shape run).given sound_after.linked m.to m
      (All-contains (IsFaithful (endpoints_of (world_after cores shape run)) (watched_after cores shape run).given) (world_after cores shape run).packets m packets_are_faithful emitted) refl now in
      let rest : List Tagged = drop ((link_to ((world_after cores shape run).actors m.to).endpoint m.from).accepted + 1) ((watched_after cores shape run).given m.from m.to) in
      record {
        rest = rest;
        tag = accepts.message.tag;
        waits = queues-after m.from m.to ∙ (queue_whole _ accepts.heard ∙ accepts.waits
            ∙ ap (λ content. record { content = content; tag = accepts.message.tag } ∷ rest) accepts.content);
        noted = accepts.tag;
      }

  pub quiet_empties_queues : IsQuiet cores shape (world_after cores shape run) → (from to : ℕ) → IsLiving shape (world_after cores shape run).roster to →
      (queue_world_of (watched_after cores shape run)).queues from to ≡ []
  quiet_empties_queues quiet from to lives = queues-after from to
      ∙ quiet_empties cores shape size (world_after cores shape run) (watched_after cores shape run).given sound_after quiet from to lives

  pub events_are_queue_events : (happening : Happening) (mark : Bool) → IsEnabledWidely shape (world_after cores shape run) happening → IsQueueStep cores shape run happening mark
  events_are_queue_events happening mark may =
      let watched : Watched S = watched_after cores shape run in
      let same : watched.world ≡ world_after cores shape run = watching_leaves_world cores shape run in
      let step = queue_event cores shape size watched happening mark sound_run (subst (λ world. IsEnabledWidely shape world happening) (sym same) may) in
      record {
        enabled = subst (λ world. IsQueueEnabled shape (queue_world_of watched) (queue_event_of world happening mark)) same step.0;
        same = ap queue_world_of (runs_go_on cores shape run happening mark).watched
            ∙ (step.1 ∙ ap (λ world. after_queue_event cores shape (queue_world_of watched) (queue_event_of world happening mark)) same);
      }

-- a run of cores and queues
record IsQueueFold {S : Type 0} (cores : Cores S) (shape : Shape) (run : Run) (watched : Watched S) (start : QueueWorld S) : Type 0 where
  enabled : EachMayHappen (IsQueueEnabled shape) (after_queue_event cores shape) (queue_events_from cores run watched.world) start
  same : queue_world_of (fold (after_watched cores) watched run) ≡ fold (after_queue_event cores shape) start (queue_events_from cores run watched.world)

queue_fold : {S : Type 0} (cores : Cores S) (shape : Shape) → IsClusterSize shape.nodes shape.spares → (run : Run) (watched : Watched S) → IsSound shape watched →
    EachMayHappen (λ world event. IsEnabledWidely shape world event.0) (after_event cores) run watched.world → IsQueueFold cores shape run watched (queue_world_of watched)
queue_fold cores shape size [] watched sound may = record { enabled = tt; same = refl }
queue_fold {S} cores shape size (event ∷ run) watched sound may =
    let next : Watched S = after_watched cores watched event in
    let step = queue_event cores shape size watched event.0 event.1 sound may.0 in
    let rest : IsQueueFold cores shape run next (after_queue_event cores shape (queue_world_of watched) (queue_event_of watched.world event.0 event.1))
    = subst (IsQueueFold cores shape run next) step.1 (queue_fold cores shape size run next (sound_event cores shape size watched event.0 event.1 sound may.0) may.1) in
    record { enabled = (step.0, rest.enabled); same = rest.same }

pub runs_are_queue_runs : {S : Type 0} (cores : Cores S) (shape : Shape) (run : Run) → IsClusterSize shape.nodes shape.spares → IsWideRun cores shape run → IsRunOfQueues cores shape run
unfolding watched_after IsWideRun IsQueueRun queue_events_of queue_world_after
runs_are_queue_runs {S} cores shape run size wide =
    let first : Watched S = record { world = first_world cores shape; given = λ from to. [] } in
    let all : IsQueueFold cores shape run first (first_queue_world cores)
    = subst (IsQueueFold cores shape run first) (queue_world_first cores shape) (queue_fold cores shape size run first (sound_first cores shape) wide) in
    record { enabled = all.enabled; same = all.same }
