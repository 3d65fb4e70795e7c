-- The system as plain data, and what may happen in it.
use Rattle.std.specs.Prelude.{◌≡◌, ◌⊎◌, ℕ, ◌+◌, ◌-◌, ◌<◌, ◌≤◌, ◌==◌, if◌then◌else◌, Bool, true, false, List, [], ◌∷◌, ◌++◌, length, Option, Some, None, slice_get}
use Rattle.std.specs.List.{fold}
use Rattle.cl_types.specs.declared.operations.TxnId.{TxnId}
use Rattle.cl_lines.specs.declared.out.Out.{Out}
use Rattle.cl_log.specs.Open.{is_among}
use Rattle.cl_roster.specs.declared.entry.RosterEntry.{RosterEntry}
use Rattle.cl_roster.specs.Roster.{IsLawfulEntry, has_stopped}
use Rattle.cl_wire.specs.Message.{Content, Message}
use Rattle.cl_steps.specs.declared.actors.TheConstants.{FRONT}
use Rattle.cl_endpoint.specs.Endpoint.{EndpointState, new_endpoint, set_number, is_waiting}
use Rattle.cl_post.specs.Steps.{OutsData}
use Rattle.cl_actor.specs.Core.{Noted, CoreStep}
use Rattle.cl_actor.specs.Acting.{ActingState, handled, entry_noted, ticked, fed_line, stop_asked}

-- the entry that is offered, if there is one, may come next in the roster that is noted
abbrev pub IsOffered : Noted → Option RosterEntry → Type 0
IsOffered known None = Unit {0}
IsOffered known (Some entry) = IsLawfulEntry known.nodes known.spares known.entries entry

-- what the actors decide, with states of this type: each function takes the number of the actor first
pub record Cores (S : Type 0) : Type 0 where
  -- the state at the start
  pub first : ℕ → S
  -- a message of this sender is accepted
  pub delivered : ℕ → Noted → S → ℕ → Content → Bool → CoreStep S
  -- a line of this number is taken, with its text and what it is to write
  pub fed : ℕ → Noted → S → ℕ → List ℕ → List Out → CoreStep S
  -- an entry of the roster is noted; what was noted does not count it yet
  pub noted : ℕ → Noted → S → RosterEntry → CoreStep S
  -- the front is asked to stop a node: it offers the stop to the roster, or refuses it
  pub stopped : Noted → S → ℕ → CoreStep S
  -- what it offers may come next, by what it has noted
  pub stopped_lawfully : (known : Noted) (state : S) (n : ℕ) → IsOffered known (stopped known state n).step.entry
  -- a quiet moment is noted
  pub quieted : ℕ → S → S
  -- every command that was fed is answered, and no rollback, inquiry or repair is under way
  pub at_rest : ℕ → S → Bool
  -- the line of this text is taken right after a quiet moment alone
  pub waits_for_quiet : List ℕ → Bool

-- the size of the cluster
pub record Shape : Type 0 where
  pub nodes : ℕ
  pub spares : ℕ

-- the system at one moment
pub record World (S : Type 0) : Type 0 where
  -- of each actor its core and its endpoint
  pub actors : ℕ → ActingState S
  -- the packets that were emitted so far: the packet of number k stands at index k - 1
  pub packets : List Message
  -- the stops so far, in order
  pub roster : List RosterEntry
  -- the transactions that became firm, in order, each once
  pub history : List TxnId
  -- how many lines were fed
  pub lines : ℕ
  -- whether the last event noted a quiet moment
  pub is_quiet_now : Bool

-- the actor lives: it is the front, or a node or a spare that has not stopped
abbrev pub IsLiving : Shape → List RosterEntry → ℕ → Type 0
IsLiving shape roster actor = (actor ≡ FRONT) ⊎ ((actor < shape.nodes + shape.spares) × (has_stopped roster actor ≡ false))

-- what may happen
pub data Happening : Type 0 where
  -- the actor handles the packet of this number
  handle : (actor id : ℕ) → Happening
  -- the actor notes the next entry of the roster
  note : (actor : ℕ) → Happening
  -- time passes for the actor
  tick : (actor : ℕ) → Happening
  -- the front is fed the line of this number, with its text and what it is to write
  feed : (number : ℕ) (text : List ℕ) (said : List Out) → Happening
  -- a node is to stop: what is admitted happens at once
  stop : (n : ℕ) → Happening
  -- a quiet moment is noted
  quiet : Happening

-- what happened, first to last, each with its mark: whether an operation that is asked in it is given up for want of memory; no clause says when
abbrev pub Run : Type 0
Run = List (Happening × Bool)

-- the endpoint of each actor
abbrev pub endpoints_of : {S : Type 0} → World S → ℕ → EndpointState
endpoints_of world actor = (world.actors actor).endpoint

-- nothing has happened
abbrev pub first_world : {S : Type 0} → Cores S → Shape → World S
first_world cores shape = record {
  actors = λ actor. record { core = cores.first actor; endpoint = new_endpoint actor shape.nodes shape.spares };
  packets = [];
  roster = [];
  history = [];
  lines = 0;
  is_quiet_now = false;
}

-- the packet of this number, if there is one
abbrev pub packet_at : {S : Type 0} → World S → ℕ → Option Message
packet_at world id = slice_get world.packets (id - 1)

-- the function with another value at one number
abbrev pub with_at : {A : Type 0} → (ℕ → A) → ℕ → A → ℕ → A
with_at f number value other = if other == number then value else f other

-- the history once a transaction is firm: it stands there once
abbrev pub with_one_firm : List TxnId → TxnId → List TxnId
with_one_firm history txn = if is_among txn history then history else history ++ txn ∷ []

-- the history once these transactions are firm
abbrev pub with_firm : List TxnId → List TxnId → List TxnId
with_firm history firm = fold with_one_firm history firm

-- an actor has acted: it has a new state, and gave what its step gives
abbrev pub after_acting : {S : Type 0} → World S → ℕ → ActingState S × OutsData → World S
after_acting world actor acted = record {
  actors = with_at world.actors actor acted.0;
  packets = world.packets ++ acted.1.packets;
  roster = world.roster;
  history = with_firm world.history acted.1.firm;
  lines = world.lines;
  is_quiet_now = false;
}

-- the actor handles the packet, if there is one
abbrev pub after_handling : {S : Type 0} → Cores S → World S → ℕ → Bool → Option Message → World S
after_handling cores world actor mark None = world
after_handling cores world actor mark (Some m) = after_acting world actor (handled (cores.delivered actor) (world.actors actor) m mark)

-- the actor notes the entry, if there is one
abbrev pub after_noting : {S : Type 0} → Cores S → World S → ℕ → Option RosterEntry → World S
after_noting cores world actor None = world
after_noting cores world actor (Some entry) = after_acting world actor (entry_noted (cores.noted actor) (world.actors actor) entry)

-- the roster with the entry that is offered, if there is one
abbrev pub with_offered : List RosterEntry → Option RosterEntry → List RosterEntry
with_offered roster None = roster
with_offered roster (Some entry) = roster ++ entry ∷ []

-- the front is asked to stop a node: what it offers stands in the roster, and it has noted it
abbrev pub after_stopping : {S : Type 0} → World S → ActingState S × OutsData → World S
after_stopping world acted = record (after_acting world FRONT acted) { roster = with_offered world.roster acted.1.entry }

-- the front notes a quiet moment
abbrev pub after_quiet : {S : Type 0} → Cores S → World S → World S
after_quiet cores world = record world {
  actors = with_at world.actors FRONT (record (world.actors FRONT) { core = cores.quieted FRONT (world.actors FRONT).core });
  is_quiet_now = true;
}

-- the system after an event
unfoldable pub after : {S : Type 0} → Cores S → World S → Happening → Bool → World S
after cores world (handle actor id) mark = after_handling cores world actor mark (packet_at world id)
after cores world (note actor) mark = after_noting cores world actor (slice_get world.roster (set_number (world.actors actor).endpoint))
after cores world (tick actor) mark = after_acting world actor (ticked (world.actors actor))
after cores world (feed number text said) mark =
    record (after_acting world FRONT (fed_line (cores.fed FRONT) (world.actors FRONT) number text said)) { lines = world.lines + 1 }
after cores world (stop n) mark = after_stopping world (stop_asked cores.stopped (world.actors FRONT) n)
after cores world quiet mark = after_quiet cores world

-- an actor may handle a packet that is addressed to it, once it has noted as much as its sender had: in any order, again, or never
pub record MayHandle {S : Type 0} (shape : Shape) (world : World S) (actor id : ℕ) : Type 0 where
  pub lives : IsLiving shape world.roster actor
  pub numbered : 1 ≤ id
  pub packet : Message
  pub emitted : packet_at world id ≡ Some packet
  pub addressed : packet.to ≡ actor
  pub noted : packet.set ≤ set_number (world.actors actor).endpoint

-- a living actor may note the entry after those that it has noted
pub record MayNote {S : Type 0} (shape : Shape) (world : World S) (actor : ℕ) : Type 0 where
  pub lives : IsLiving shape world.roster actor
  pub entry : RosterEntry
  pub next : slice_get world.roster (set_number (world.actors actor).endpoint) ≡ Some entry

-- lines are numbered from 1, and no line writes anything of its own yet
pub record MayFeed {S : Type 0} (world : World S) (number : ℕ) (said : List Out) : Type 0 where
  pub next : number ≡ world.lines + 1
  pub silent : said ≡ []

-- the actor has noted the whole roster
abbrev pub HasNotedAll : {S : Type 0} → World S → ℕ → Type 0
HasNotedAll world actor = set_number (world.actors actor).endpoint ≡ length world.roster

-- the event may happen, were every moment quiet
abbrev pub IsEnabledWidely : {S : Type 0} → Shape → World S → Happening → Type 0
IsEnabledWidely shape world (handle actor id) = MayHandle shape world actor id
IsEnabledWidely shape world (note actor) = MayNote shape world actor
IsEnabledWidely shape world (tick actor) = IsLiving shape world.roster actor
IsEnabledWidely shape world (feed number text said) = MayFeed world number said
IsEnabledWidely shape world (stop n) = HasNotedAll world FRONT
IsEnabledWidely shape world quiet = Unit {0}

-- the moment is quiet: each living actor is at rest and has noted the whole roster, and every message of it was acknowledged
pub record IsQuiet {S : Type 0} (cores : Cores S) (shape : Shape) (world : World S) : Type 0 where
  pub at_rest : (actor : ℕ) → IsLiving shape world.roster actor → cores.at_rest actor (world.actors actor).core ≡ true
  pub noted : (actor : ℕ) → IsLiving shape world.roster actor → HasNotedAll world actor
  pub acknowledged : (actor : ℕ) → IsLiving shape world.roster actor → is_waiting (world.actors actor).endpoint ≡ false

-- the event does not come before the quiet moment that it needs
abbrev pub IsTimely : {S : Type 0} → Cores S → Shape → World S → Happening → Type 0
IsTimely cores shape world (handle actor id) = Unit {0}
IsTimely cores shape world (note actor) = Unit {0}
IsTimely cores shape world (tick actor) = Unit {0}
IsTimely cores shape world (feed number text said) = cores.waits_for_quiet text ≡ true → world.is_quiet_now ≡ true
IsTimely cores shape world (stop n) = Unit {0}
IsTimely cores shape world quiet = IsQuiet cores shape world

-- the event may happen
pub record IsEnabled {S : Type 0} (cores : Cores S) (shape : Shape) (world : World S) (happening : Happening) : Type 0 where
  pub widely : IsEnabledWidely shape world happening
  pub timely : IsTimely cores shape world happening

-- the system after an event with its mark
abbrev pub after_event : {S : Type 0} → Cores S → World S → Happening × Bool → World S
after_event cores world event = after cores world event.0 event.1

-- each event may happen in its turn, from this state on, by what may happen in a state and what comes next
abbrev pub EachMayHappen : {W E : Type 0} → (W → E → Type 0) → (W → E → W) → List E → W → Type 0
EachMayHappen MayHappen next [] state = Unit {0}
EachMayHappen MayHappen next (event ∷ events) state = MayHappen state event × EachMayHappen MayHappen next events (next state event)

-- the system after a run
unfoldable pub world_after : {S : Type 0} → Cores S → Shape → Run → World S
world_after cores shape run = fold (after_event cores) (first_world cores shape) run

-- each event of the run may happen in its turn
unfoldable pub IsRun : {S : Type 0} → Cores S → Shape → Run → Type 0
IsRun cores shape run = EachMayHappen (λ world event. IsEnabled cores shape world event.0) (after_event cores) run (first_world cores shape)

-- likewise, but quiet moments, and lines that wait for one, may come at any time
unfoldable pub IsWideRun : {S : Type 0} → Cores S → Shape → Run → Type 0
IsWideRun cores shape run = EachMayHappen (λ world event. IsEnabledWidely shape world event.0) (after_event cores) run (first_world cores shape)
