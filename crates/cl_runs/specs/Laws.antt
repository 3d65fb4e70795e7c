-- What holds of every run: lossy links are queues.
use Rattle.std.specs.Prelude.{◌≡◌, ◌⊎◌, ◌↔◌, ℕ, ◌-◌, ◌<◌, ◌≤◌, Bool, false, List, [], ◌∷◌, ◌++◌, length, All, Some, None, slice_get}
use Rattle.std.specs.List.{Contains}
use Rattle.cl_roster.specs.Roster.{IsClusterSize, IsLawfulRoster, has_stopped}
use Rattle.cl_wire.specs.Message.{Bare, Message}
use Rattle.cl_link.specs.LinkPair.{LinkOrder, LinkAcks}
use Rattle.cl_link.specs.Network.{IsPrefixOf}
use Rattle.cl_endpoint.specs.declared.limits.TheConstants.{ACTORS}
use Rattle.cl_endpoint.specs.declared.received.Received.TheVariants.{Now}
use Rattle.cl_endpoint.specs.Endpoint.{EndpointState, link_to, set_number, received}
use Rattle.cl_actor.specs.Core.{Noted}
use Rattle.cl_runs.specs.World.{Cores, Shape, World, endpoints_of, IsLiving, Happening, Run, after, IsEnabledWidely, IsEnabled, IsQuiet, world_after, IsRun, IsWideRun}
use Rattle.cl_runs.specs.Queues.{Tagged, contents_of, Queues, after_watched, watched_after, queue_world_of, after_queue_event, IsQueueEnabled, queue_event_of, queue_events_of, queue_world_after, IsQueueRun}

-- a packet without a message
pub record IsBare (m : Message) : Type 0 where
  pub number : m.seq ≡ 0
  pub content : m.content ≡ Bare

-- a packet with the message that its link was given under its number; the packet's set number is at least the tag
pub record CarriesGiven (given : Queues) (m : Message) : Type 0 where
  pub numbered : 1 ≤ m.seq
  pub message : Tagged
  pub at : slice_get (given m.from m.to) (m.seq - 1) ≡ Some message
  pub content : message.content ≡ m.content
  pub tag : message.tag ≤ m.set

-- a packet says what is so, where the actors have these endpoints, whose links were given this
pub record IsFaithful (ends : ℕ → EndpointState) (given : Queues) (m : Message) : Type 0 where
  -- it goes from an actor to an actor
  pub sender : m.from < ACTORS
  pub receiver : m.to < ACTORS
  -- it is bare, or carries what its link was given
  pub carries : IsBare m ⊎ CarriesGiven given m
  -- its sender has noted so many entries of the roster
  pub set : m.set ≤ set_number (ends m.from)
  -- its sender has accepted what it acknowledges
  pub ack : m.ack ≤ (link_to (ends m.from) m.to).accepted

-- the endpoint of an actor in a cluster of this size
pub record IsShaped (shape : Shape) (actor : ℕ) (end : EndpointState) : Type 0 where
  pub me : end.me ≡ actor
  pub nodes : end.nodes ≡ shape.nodes
  pub spares : end.spares ≡ shape.spares
  pub links : length end.links ≡ ACTORS

-- both ends of a link agree on what it was given
pub record IsLinked (ends : ℕ → EndpointState) (given : Queues) (from to : ℕ) : Type 0 where
  -- the receiver accepts in order what was given
  pub order : LinkOrder (contents_of (given from to)) (link_to (ends from) to) (link_to (ends to) from) []
  -- nothing counts as acknowledged that was not accepted, until the sender has noted the receiver's stop
  pub acks : has_stopped (ends from).noted to ≡ false → LinkAcks (link_to (ends from) to) (link_to (ends to) from) []
  -- whoever gave a message has noted so many entries of the roster
  pub tags : All (λ message. message.tag ≤ set_number (ends from)) (given from to)

-- an event is one of cores and queues that may happen there
pub record IsQueueStep {S : Type 0} (cores : Cores S) (shape : Shape) (run : Run) (happening : Happening) (mark : Bool) : Type 0 where
  pub enabled : IsQueueEnabled shape (queue_world_of (watched_after cores shape run)) (queue_event_of (world_after cores shape run) happening mark)
  pub same : queue_world_of (watched_after cores shape (run ++ (happening, mark) ∷ []))
      ≡ after_queue_event cores shape (queue_world_of (watched_after cores shape run)) (queue_event_of (world_after cores shape run) happening mark)

-- a run is one of cores and queues
pub record IsRunOfQueues {S : Type 0} (cores : Cores S) (shape : Shape) (run : Run) : Type 0 where
  pub enabled : IsQueueRun cores shape (queue_events_of cores shape run)
  pub same : queue_world_of (watched_after cores shape run) ≡ queue_world_after cores shape (queue_events_of cores shape run)

-- the queue of a packet that is accepted now begins with its message
pub record IsHead (queue : List Tagged) (m : Message) : Type 0 where
  pub rest : List Tagged
  pub tag : ℕ
  pub waits : queue ≡ record { content = m.content; tag = tag } ∷ rest
  pub noted : tag ≤ m.set

-- the statement holds of every wide run of every cluster of a lawful size, whatever the actors decide
abbrev pub OfWideRuns : (S : Type 0) → (Cores S → Shape → Run → Type 0) → Type 0
OfWideRuns S Holds = (cores : Cores S) (shape : Shape) (run : Run) → IsClusterSize shape.nodes shape.spares → IsWideRun cores shape run → Holds cores shape run

-- a run is one of cores and queues: whatever is lost, repeated or reordered, links are queues
abbrev pub RunsAreQueueRuns : Type 0 → Type 0
RunsAreQueueRuns S = OfWideRuns S IsRunOfQueues

-- so is each event more
abbrev pub EventsAreQueueEvents : Type 0 → Type 0
EventsAreQueueEvents S = OfWideRuns S (λ cores shape run.
    (happening : Happening) (mark : Bool) → IsEnabledWidely shape (world_after cores shape run) happening → IsQueueStep cores shape run happening mark)

-- what is accepted now is the head of a queue
abbrev pub AcceptedIsHead : Type 0 → Type 0
AcceptedIsHead S = OfWideRuns S (λ cores shape run.
    (m : Message) → Contains (world_after cores shape run).packets m → received ((world_after cores shape run).actors m.to).endpoint m.from m.seq ≡ Now →
    IsHead ((queue_world_of (watched_after cores shape run)).queues m.from m.to) m)

-- each packet that was ever emitted says what is so
abbrev pub PacketsAreFaithful : Type 0 → Type 0
PacketsAreFaithful S = OfWideRuns S (λ cores shape run.
    All (IsFaithful (endpoints_of (world_after cores shape run)) (watched_after cores shape run).given) (world_after cores shape run).packets)

-- both ends of each link agree
abbrev pub ActorsAreLinked : Type 0 → Type 0
ActorsAreLinked S = OfWideRuns S (λ cores shape run.
    (from to : ℕ) → IsLinked (endpoints_of (world_after cores shape run)) (watched_after cores shape run).given from to)

-- each actor has its own endpoint, with a link to each actor
abbrev pub EndpointsAreShaped : Type 0 → Type 0
EndpointsAreShaped S = OfWideRuns S (λ cores shape run. (actor : ℕ) → IsShaped shape actor ((world_after cores shape run).actors actor).endpoint)

-- at a quiet moment nothing is on its way to a living actor
abbrev pub QuietEmptiesQueues : Type 0 → Type 0
QuietEmptiesQueues S = OfWideRuns S (λ cores shape run.
    IsQuiet cores shape (world_after cores shape run) → (from to : ℕ) → IsLiving shape (world_after cores shape run).roster to →
    (queue_world_of (watched_after cores shape run)).queues from to ≡ [])

-- the roster is lawful, and what each actor has noted is a beginning of it
pub record IsNotedBy {S : Type 0} (shape : Shape) (world : World S) : Type 0 where
  pub lawful : IsLawfulRoster shape.nodes shape.spares world.roster
  pub noted : (actor : ℕ) → IsPrefixOf (world.actors actor).endpoint.noted world.roster

-- so it is in each run
abbrev pub RostersAreNoted : Type 0 → Type 0
RostersAreNoted S = OfWideRuns S (λ cores shape run. IsNotedBy shape (world_after cores shape run))

-- no stop is ever offered
abbrev pub NeverStops : {S : Type 0} → Cores S → Type 0
NeverStops {S} cores = (known : Noted) (state : S) (n : ℕ) → (cores.stopped known state n).step.entry ≡ None

-- nobody has stopped, and nobody has noted anything
pub record IsWithoutStops {S : Type 0} (world : World S) : Type 0 where
  pub roster : world.roster ≡ []
  pub noted : (actor : ℕ) → (world.actors actor).endpoint.noted ≡ []

-- where no stop is ever offered, so it stays
abbrev pub NobodyStops : Type 0 → Type 0
NobodyStops S = OfWideRuns S (λ cores shape run. NeverStops cores → IsWithoutStops (world_after cores shape run))

-- a run is a wide run
abbrev pub RunsAreWide : Type 0 → Type 0
RunsAreWide S = (cores : Cores S) (shape : Shape) (run : Run) → IsRun cores shape run → IsWideRun cores shape run

-- one event more
pub record GoesOn {S : Type 0} (cores : Cores S) (shape : Shape) (run : Run) (happening : Happening) (mark : Bool) : Type 0 where
  pub enabled : IsRun cores shape (run ++ (happening, mark) ∷ []) ↔ (IsRun cores shape run × IsEnabled cores shape (world_after cores shape run) happening)
  pub enabled_widely : IsWideRun cores shape (run ++ (happening, mark) ∷ []) ↔ (IsWideRun cores shape run × IsEnabledWidely shape (world_after cores shape run) happening)
  pub world : world_after cores shape (run ++ (happening, mark) ∷ []) ≡ after cores (world_after cores shape run) happening mark
  pub watched : watched_after cores shape (run ++ (happening, mark) ∷ []) ≡ after_watched cores (watched_after cores shape run) (happening, mark)

-- runs go on by one event
abbrev pub RunsGoOn : Type 0 → Type 0
RunsGoOn S = (cores : Cores S) (shape : Shape) (run : Run) (happening : Happening) (mark : Bool) → GoesOn cores shape run happening mark

-- to watch a run leaves it as it is
abbrev pub WatchingLeavesWorld : Type 0 → Type 0
WatchingLeavesWorld S = (cores : Cores S) (shape : Shape) (run : Run) → (watched_after cores shape run).world ≡ world_after cores shape run
