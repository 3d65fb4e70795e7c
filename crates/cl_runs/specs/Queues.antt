-- The same system without packets: cores, and a queue from each actor to each other and to itself.
use Rattle.std.specs.Prelude.{◌≡◌, ℕ, ◌+◌, ◌≤◌, ◌==◌, nat_lt, if◌then◌else◌, Bool, ◌&&◌, List, [], ◌∷◌, ◌++◌, length, map, drop, Option, Some, None, slice_get}
use Rattle.std.specs.List.{fold}
use Rattle.cl_types.specs.declared.operations.TxnId.{TxnId}
use Rattle.cl_lines.specs.declared.out.Out.{Out}
use Rattle.cl_roster.specs.declared.entry.RosterEntry.{RosterEntry}
use Rattle.cl_roster.specs.declared.entry.RosterEntry.TheVariants.{Stopped, Repaired}
use Rattle.cl_roster.specs.Roster.{has_stopped}
use Rattle.cl_steps.specs.declared.steps.Outgoing.{Outgoing}
use Rattle.cl_wire.specs.Message.{Content, Message}
use Rattle.cl_endpoint.specs.declared.limits.TheConstants.{ACTORS}
use Rattle.cl_steps.specs.declared.actors.TheConstants.{FRONT}
use Rattle.cl_endpoint.specs.Endpoint.{link_to, set_number, received}
use Rattle.cl_endpoint.specs.Laws.{contents_to}
use Rattle.cl_actor.specs.Core.{Noted, CoreStep}
use Rattle.cl_actor.specs.Acting.{ActingState, noted_in, unmoved, is_now, accepted_step}
use Rattle.cl_runs.specs.World.{Cores, Shape, World, IsLiving, Happening, handle, note, tick, feed, stop, quiet, Run, first_world, packet_at, with_at, with_firm, after_event, EachMayHappen}

-- a message on its way, with its tag: how many entries of the roster its giver had noted when it gave it
pub record Tagged : Type 0 where
  pub content : Content
  pub tag : ℕ

-- for each giver and each receiver a list of messages, first to last
abbrev pub Queues : Type 0
Queues = ℕ → ℕ → List Tagged

-- what an actor is sent, in order; who is no actor is sent nothing
abbrev pub sent_to : ℕ → List Outgoing → List Content
sent_to to sends = if nat_lt to ACTORS then contents_to to sends else []

-- contents with one tag
abbrev pub tagged : ℕ → List Content → List Tagged
tagged tag contents = map (λ content. record { content = content; tag = tag }) contents

-- what messages contain, without their tags
abbrev pub contents_of : List Tagged → List Content
contents_of messages = map (λ message. message.content) messages

-- what a giver sends, with its tag, goes to the ends of its queues
abbrev pub with_sends : Queues → ℕ → ℕ → List Outgoing → Queues
with_sends queues giver tag sends from to = if from == giver then queues from to ++ tagged tag (sent_to to sends) else queues from to

-- who acts in an event
abbrev pub actor_of : Happening → ℕ
actor_of (handle actor id) = actor
actor_of (note actor) = actor
actor_of (tick actor) = actor
actor_of (feed number text said) = FRONT
actor_of (stop n) = FRONT
actor_of quiet = FRONT

-- what the core of an actor does with a packet, if there is one
abbrev pub step_on : {S : Type 0} → Cores S → ActingState S → ℕ → Bool → Option Message → CoreStep S
step_on cores before actor mark None = unmoved before.core
step_on cores before actor mark (Some m) = accepted_step (cores.delivered actor) before m mark

-- what the core of an actor does with an entry, if there is one
abbrev pub step_at : {S : Type 0} → Cores S → ActingState S → ℕ → Option RosterEntry → CoreStep S
step_at cores before actor None = unmoved before.core
step_at cores before actor (Some entry) = cores.noted actor (noted_in before.endpoint) before.core entry

-- the next entry for an actor to note
abbrev pub next_entry : {S : Type 0} → World S → ℕ → Option RosterEntry
next_entry world actor = slice_get world.roster (set_number (world.actors actor).endpoint)

-- what the core does of the actor that acts
abbrev pub core_step : {S : Type 0} → Cores S → World S → Happening → Bool → CoreStep S
core_step cores world (handle actor id) mark = step_on cores (world.actors actor) actor mark (packet_at world id)
core_step cores world (note actor) mark = step_at cores (world.actors actor) actor (next_entry world actor)
core_step cores world (tick actor) mark = unmoved (world.actors actor).core
core_step cores world (feed number text said) mark = cores.fed FRONT (noted_in (world.actors FRONT).endpoint) (world.actors FRONT).core number text said
core_step cores world (stop n) mark = cores.stopped (noted_in (world.actors FRONT).endpoint) (world.actors FRONT).core n
core_step cores world quiet mark = unmoved (world.actors FRONT).core

-- one entry, where there is one
abbrev pub count_noted : Option RosterEntry → ℕ
count_noted None = 0
count_noted (Some entry) = 1

-- how many entries the actor notes in an event before it gives messages
abbrev pub noted_more : {S : Type 0} → Cores S → World S → Happening → Bool → ℕ
noted_more cores world (note actor) mark = count_noted (next_entry world actor)
noted_more cores world (stop n) mark = count_noted (core_step cores world (stop n) mark).step.entry
noted_more cores world happening mark = 0

-- what was given to the links, once an event has happened
abbrev pub given_after : {S : Type 0} → Cores S → World S → Queues → Happening → Bool → Queues
given_after cores world given happening mark =
    with_sends given (actor_of happening) (set_number (world.actors (actor_of happening)).endpoint + noted_more cores world happening mark)
    (core_step cores world happening mark).step.sends

-- the system, and beside it what each actor gave its link to each peer so far
pub record Watched (S : Type 0) : Type 0 where
  pub world : World S
  pub given : Queues

-- both, once an event has happened
abbrev pub after_watched : {S : Type 0} → Cores S → Watched S → Happening × Bool → Watched S
after_watched cores watched event = record {
  world = after_event cores watched.world event;
  given = given_after cores watched.world watched.given event.0 event.1;
}

-- both after a run
unfoldable pub watched_after : {S : Type 0} → Cores S → Shape → Run → Watched S
watched_after cores shape run = fold (after_watched cores) (record { world = first_world cores shape; given = λ from to. [] }) run

-- cores and queues at one moment
pub record QueueWorld (S : Type 0) : Type 0 where
  pub cores : ℕ → S
  -- the entries of the roster that each actor has noted
  pub noted : ℕ → List RosterEntry
  -- what the first actor gave the second one and the second one has not accepted; nothing, once the second one has noted the stop of the first
  pub queues : Queues
  -- the stops so far, in order
  pub roster : List RosterEntry
  pub history : List TxnId
  pub lines : ℕ

-- what waits for an actor from another one, unless it has noted that one's stop
abbrev pub queue_unless : Bool → List Tagged → List Tagged
queue_unless stopped waiting = if stopped then [] else waiting

-- the system without packets
abbrev pub queue_world_of : {S : Type 0} → Watched S → QueueWorld S
queue_world_of watched = record {
  cores = λ actor. (watched.world.actors actor).core;
  noted = λ actor. (watched.world.actors actor).endpoint.noted;
  queues = λ from to. queue_unless (has_stopped (watched.world.actors to).endpoint.noted from)
      (drop (link_to (watched.world.actors to).endpoint from).accepted (watched.given from to));
  roster = watched.world.roster;
  history = watched.world.history;
  lines = watched.world.lines;
}

-- what may happen there
pub data QueueEvent : Type 0 where
  -- the head of a queue is delivered
  deliver : (from to : ℕ) (mark : Bool) → QueueEvent
  -- the actor notes the next entry of the roster
  note_next : (actor : ℕ) → QueueEvent
  -- the front takes the line of this number, with its text and what it is to write
  take_line : (number : ℕ) (text : List ℕ) (said : List Out) → QueueEvent
  -- the front is asked to stop a node
  stop_node : (n : ℕ) → QueueEvent
  -- the front notes a quiet moment
  quieten : QueueEvent
  -- nothing that a core could tell
  nothing : QueueEvent

-- what an actor knows of the roster
abbrev pub noted_by : {S : Type 0} → Shape → QueueWorld S → ℕ → Noted
noted_by shape world actor = record { nodes = shape.nodes; spares = shape.spares; entries = world.noted actor }

-- the core of an actor has taken a step
abbrev pub after_step : {S : Type 0} → QueueWorld S → ℕ → CoreStep S → QueueWorld S
after_step world actor stepped = record {
  cores = with_at world.cores actor stepped.state;
  noted = world.noted;
  queues = with_sends world.queues actor (length (world.noted actor)) stepped.step.sends;
  roster = world.roster;
  history = with_firm world.history stepped.step.firm;
  lines = world.lines;
}

-- one queue is another one
abbrev pub with_queue : Queues → ℕ → ℕ → List Tagged → Queues
with_queue queues from to queue giver receiver = if (receiver == to) && (giver == from) then queue else queues giver receiver

-- the head of a queue is taken off, and the core of the receiver takes its content
abbrev pub after_delivery : {S : Type 0} → Cores S → Shape → QueueWorld S → ℕ → ℕ → Bool → List Tagged → QueueWorld S
after_delivery cores shape world from to mark [] = world
after_delivery cores shape world from to mark (head ∷ rest) =
    after_step (record world { queues = with_queue world.queues from to rest }) to
    (cores.delivered to (noted_by shape world to) (world.cores to) from head.content mark)

-- what an actor has noted the stop of gives it nothing more
abbrev pub without_stopped : Queues → ℕ → RosterEntry → Queues
without_stopped queues actor (Stopped n) = with_queue queues n actor []
without_stopped queues actor (Repaired v n) = queues

-- an actor has noted an entry
abbrev pub with_noted : {S : Type 0} → QueueWorld S → ℕ → RosterEntry → QueueWorld S
with_noted world actor entry = record world {
  noted = with_at world.noted actor (world.noted actor ++ entry ∷ []);
  queues = without_stopped world.queues actor entry;
}

-- an actor notes an entry, if there is one
abbrev pub after_entry : {S : Type 0} → Cores S → Shape → QueueWorld S → ℕ → Option RosterEntry → QueueWorld S
after_entry cores shape world actor None = world
after_entry cores shape world actor (Some entry) = after_step (with_noted world actor entry) actor
    (cores.noted actor (noted_by shape world actor) (world.cores actor) entry)

-- what the front offers, if anything, stands in the roster, and the front has noted it
abbrev pub with_offer : {S : Type 0} → QueueWorld S → Option RosterEntry → QueueWorld S
with_offer world None = world
with_offer world (Some entry) = record (with_noted world FRONT entry) { roster = world.roster ++ entry ∷ [] }

-- the front is asked to stop a node
abbrev pub after_stop_asked : {S : Type 0} → QueueWorld S → CoreStep S → QueueWorld S
after_stop_asked world stepped = after_step (with_offer world stepped.step.entry) FRONT stepped

-- cores and queues after an event
unfoldable pub after_queue_event : {S : Type 0} → Cores S → Shape → QueueWorld S → QueueEvent → QueueWorld S
after_queue_event cores shape world (deliver from to mark) = after_delivery cores shape world from to mark (world.queues from to)
after_queue_event cores shape world (note_next actor) = after_entry cores shape world actor (slice_get world.roster (length (world.noted actor)))
after_queue_event cores shape world (stop_node n) = after_stop_asked world (cores.stopped (noted_by shape world FRONT) (world.cores FRONT) n)
after_queue_event cores shape world (take_line number text said) =
    after_step (record world { lines = world.lines + 1 }) FRONT (cores.fed FRONT (noted_by shape world FRONT) (world.cores FRONT) number text said)
after_queue_event cores shape world quieten = record world { cores = with_at world.cores FRONT (cores.quieted FRONT (world.cores FRONT)) }
after_queue_event cores shape world nothing = world

-- a living actor may take the head of a queue once it has noted what its giver had noted
pub record MayDeliver {S : Type 0} (shape : Shape) (world : QueueWorld S) (from to : ℕ) : Type 0 where
  pub lives : IsLiving shape world.roster to
  pub head : Tagged
  pub rest : List Tagged
  pub waits : world.queues from to ≡ head ∷ rest
  pub noted : head.tag ≤ length (world.noted to)

-- a living actor may note the entry after those that it has noted
pub record MayNoteNext {S : Type 0} (shape : Shape) (world : QueueWorld S) (actor : ℕ) : Type 0 where
  pub lives : IsLiving shape world.roster actor
  pub entry : RosterEntry
  pub next : slice_get world.roster (length (world.noted actor)) ≡ Some entry

-- lines are numbered from 1, and no line writes anything of its own yet
pub record MayTakeLine {S : Type 0} (world : QueueWorld S) (number : ℕ) (said : List Out) : Type 0 where
  pub next : number ≡ world.lines + 1
  pub silent : said ≡ []

-- the event may happen
abbrev pub IsQueueEnabled : {S : Type 0} → Shape → QueueWorld S → QueueEvent → Type 0
IsQueueEnabled shape world (deliver from to mark) = MayDeliver shape world from to
IsQueueEnabled shape world (note_next actor) = MayNoteNext shape world actor
IsQueueEnabled shape world (take_line number text said) = MayTakeLine world number said
IsQueueEnabled shape world (stop_node n) = world.noted FRONT ≡ world.roster
IsQueueEnabled shape world quieten = Unit {0}
IsQueueEnabled shape world nothing = Unit {0}

-- what the handling of a packet is for cores and queues: where it is accepted now, its message is delivered
abbrev pub event_on : {S : Type 0} → World S → ℕ → Bool → Option Message → QueueEvent
event_on world actor mark None = nothing
event_on world actor mark (Some m) = if is_now (received (world.actors actor).endpoint m.from m.seq) then deliver m.from actor mark else nothing

-- what an event is for cores and queues
unfoldable pub queue_event_of : {S : Type 0} → World S → Happening → Bool → QueueEvent
queue_event_of world (handle actor id) mark = event_on world actor mark (packet_at world id)
queue_event_of world (note actor) mark = note_next actor
queue_event_of world (tick actor) mark = nothing
queue_event_of world (feed number text said) mark = take_line number text said
queue_event_of world (stop n) mark = stop_node n
queue_event_of world quiet mark = quieten

-- what a run is for cores and queues, from this world on
abbrev pub queue_events_from : {S : Type 0} → Cores S → Run → World S → List QueueEvent
queue_events_from cores [] world = []
queue_events_from cores (event ∷ run) world = queue_event_of world event.0 event.1 ∷ queue_events_from cores run (after_event cores world event)

-- what a run is for cores and queues
unfoldable pub queue_events_of : {S : Type 0} → Cores S → Shape → Run → List QueueEvent
queue_events_of cores shape run = queue_events_from cores run (first_world cores shape)

-- cores and queues before any event
abbrev pub first_queue_world : {S : Type 0} → Cores S → QueueWorld S
first_queue_world cores = record { cores = cores.first; noted = λ actor. []; queues = λ from to. []; roster = []; history = []; lines = 0 }

-- cores and queues after events, first to last
unfoldable pub queue_world_after : {S : Type 0} → Cores S → Shape → List QueueEvent → QueueWorld S
queue_world_after cores shape events = fold (after_queue_event cores shape) (first_queue_world cores) events

-- each event may happen in its turn
unfoldable pub IsQueueRun : {S : Type 0} → Cores S → Shape → List QueueEvent → Type 0
IsQueueRun cores shape events = EachMayHappen (IsQueueEnabled shape) (after_queue_event cores shape) events (first_queue_world cores)
