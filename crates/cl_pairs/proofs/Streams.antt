-- After every run of pairs each virtual node is one log.
use Rattle.std.proofs.Common.{inl, ⊎_elim, Contains, ◌-◌}
use Rattle.std.proofs.Common.{◌≡◌, ◌≢◌, ℕ, ◌+◌, ◌<◌, eqb, ltb, cond, true, false, Bool, List, [], ◌∷◌, ◌++◌, map, filter, fold, All, Option, Some, None, refl, sym, ◌∙◌, ap, subst, arith}
use Rattle.std.proofs.lemmas.Bool.{eqb-true, lt-ltb}
use Rattle.std.proofs.lemmas.List.{append-nil}
use Rattle.std.proofs.lemmas.List.Elements.{All-nil, All-head, All-weaker}
use Rattle.cl_actor.specs.Core.{CoreStep}
use Rattle.cl_endpoint.specs.declared.limits.TheConstants.{ACTORS}
use Rattle.cl_front.specs.Front.{FrontState, delivered_front, fed_front}
use Rattle.cl_log.specs.declared.records.LogRec.{LogRec}
use Rattle.cl_log.specs.LogEntry.{LogEntry}
use Rattle.cl_part.specs.State.{State}
use Rattle.cl_runs.specs.Queues.{QueueEvent, deliver, take_line}
use Rattle.cl_runs.specs.World.{Shape}
use Rattle.cl_steps.specs.declared.actors.TheConstants.{FRONT}
use Rattle.cl_steps.specs.declared.steps.Outgoing.{Outgoing}
use Rattle.cl_system.proofs.Sends.{AreSent, IsSent, line_sends, message_sends}
use Rattle.cl_system.specs.Replicas.{nothing_noted, with_way}
use Rattle.cl_types.proofs.PlacementLaws.{node_count-bounds}
use Rattle.cl_types.specs.Placement.{IsNodeCount}
use Rattle.cl_wire.specs.Message.{Content, Log, LogAck}
use Rattle.cl_pairs.specs.Laws.{PairsAreOneLog, PairsAgree, AllIsAcknowledged}
use Rattle.cl_pairs.specs.Pairs.{PairWorld, front_acts, logged_at, replica_acts, after_message, after_first, after_pair_event, first_pair_world, pair_world_after}
use Rattle.cl_node.specs.Members.{standby_node}
use Rattle.cl_pairs.specs.Streams.{is_log_of, log_of, IsAckBelow, part_of}
use Rattle.cl_backup.specs.Decisions.{decisions_from}
use Rattle.cl_pairs.proofs.Keeping.{IsBelow, IsBetween, AreStreams, addressed_outward, popped, mailed, primary_kept, standby_kept}
use Rattle.cl_pairs.proofs.Hearing.{IsHeardAt, heard_mailed, heard_passed, primary_heard, standby_heard}
use Rattle.cl_pairs.proofs.Logs.{said-first}
use Rattle.cl_pairs.proofs.Shipping.{IsOutward, AreOutward}

-- all virtual nodes of the system are one log each
abbrev pub HasStreams : Shape → PairWorld → Type 0
HasStreams shape pairs = AreStreams shape.nodes pairs.primaries pairs.standbys pairs.mail

module _ (shape : Shape) (counted : IsNodeCount shape.nodes) where
  -- each standby is at a node
  standby_below : (v : ℕ) → standby_node shape.nodes v < shape.nodes
  standby_below v = let bounds = node_count-bounds shape.nodes counted in omega (arith, bounds.0)

  -- which is an actor
  standby_acting : (v : ℕ) → ltb (standby_node shape.nodes v) ACTORS ≡ true
  standby_acting v =
      let bounds = node_count-bounds shape.nodes counted in
      let below = standby_below v in
      lt-ltb (standby_node shape.nodes v) ACTORS (omega (arith, bounds.1, below))

  -- and not the front
  standby_apart : (v : ℕ) → standby_node shape.nodes v ≢ FRONT
  standby_apart v same =
      let bounds = node_count-bounds shape.nodes counted in
      let below = standby_below v in
      omega (arith, bounds.1, below, same)

  -- at the start all logs are empty
  pub streams_at_first : HasStreams shape (first_pair_world shape)
  streams_at_first = record {
    streams = λ v. record {
      own = refl;
      mode = refl;
      way = [];
      logs = refl;
      shipped = refl;
      primary_said = said-first;
      standby_said = said-first;
      acknowledged = All-nil (IsAckBelow v 1);
      acked = omega arith;
    };
    ways = λ from to. All-nil (IsBetween shape.nodes from to);
  }

  -- what the front sends is not between a primary and its standby
  front_outward : (sends : List Outgoing) → AreSent shape.nodes FRONT sends → AreOutward sends
  front_outward sends are =
      All-weaker (IsSent shape.nodes FRONT) (λ (send : Outgoing). IsOutward send.payload)
      (λ send is. addressed_outward shape.nodes FRONT send.to send.payload is) sends are

  module _ (pairs : PairWorld) (are : HasStreams shape pairs) where
    -- the front has taken a step
    front_kept : (core : CoreStep FrontState) → AreSent shape.nodes FRONT core.step.sends → HasStreams shape (front_acts pairs core)
    front_kept core sent = mailed shape.nodes pairs.primaries pairs.standbys pairs.mail are FRONT core.step.sends (front_outward core.step.sends sent)

  module _ (pairs : PairWorld) (are : HasStreams shape pairs) (from to : ℕ) (mark : Bool) where
    -- a message that is no log record came
    plain_kept : (content : Content) (rest : List Content) → pairs.mail from to ≡ content ∷ rest → ((v : ℕ) → is_log_of v content ≡ false) →
        logged_at content ≡ None → IsBelow (pairs.standbys to).part.next content →
        HasStreams shape (after_message shape (record pairs { mail = with_way pairs.mail from to rest }) from to content mark)
    plain_kept content rest waits none unlogged below =
        let left : PairWorld = record pairs { mail = with_way pairs.mail from to rest } in
        let is : HasStreams shape left = popped shape.nodes pairs.primaries pairs.standbys pairs.mail are from to content rest waits none in
        elim (eqb to FRONT) as
        (λ b. HasStreams shape
        (cond b (front_acts left (delivered_front (nothing_noted shape) left.front from content mark))
        (replica_acts shape left from to content mark (logged_at content)))) [
          | true ↦ front_kept left is (delivered_front (nothing_noted shape) left.front from content mark) (message_sends shape left.front from content mark)
          | false ↦
              subst (λ (o : Option ℕ). HasStreams shape (replica_acts shape left from to content mark o)) (sym unlogged)
              (primary_kept shape.nodes pairs.primaries pairs.standbys left.mail is to from content mark standby_acting below)
        ]

    -- a log record came
    log_kept : (v number : ℕ) (content : LogRec) (rest : List Content) → pairs.mail from to ≡ Log v number content ∷ rest → from ≡ v →
        to ≡ standby_node shape.nodes v →
        HasStreams shape (after_message shape (record pairs { mail = with_way pairs.mail from to rest }) from to (Log v number content) mark)
    log_kept v number content rest waits giver receiver =
        let left : PairWorld = record pairs { mail = with_way pairs.mail from to rest } in
        elim (eqb to FRONT) as
        (λ b. (eqb to FRONT ≡ b) → HasStreams shape
        (cond b (front_acts left (delivered_front (nothing_noted shape) left.front from (Log v number content) mark))
        (replica_acts shape left from to (Log v number content) mark (Some v)))) [
          | true ↦ λ front. absurd (standby_apart v (sym receiver ∙ eqb-true to FRONT front))
          | false ↦ λ node. taken from to giver receiver waits
        ]
        refl
      where
        -- whoever they are
        taken : (from to : ℕ) → from ≡ v → to ≡ standby_node shape.nodes v → pairs.mail from to ≡ Log v number content ∷ rest →
            HasStreams shape (replica_acts shape (record pairs { mail = with_way pairs.mail from to rest }) from to (Log v number content) mark (Some v))
        taken from to giver receiver waits =
            subst (λ n. pairs.mail n to ≡ Log v number content ∷ rest → HasStreams shape
            (replica_acts shape (record pairs { mail = with_way pairs.mail n to rest }) n to (Log v number content) mark (Some v))) (sym giver)
            (subst (λ n. pairs.mail v n ≡ Log v number content ∷ rest → HasStreams shape
            (replica_acts shape (record pairs { mail = with_way pairs.mail v n rest }) v n (Log v number content) mark (Some v))) (sym receiver)
            (standby_kept shape.nodes pairs.primaries pairs.standbys pairs.mail are v number content rest))
            waits

    -- the number of an acknowledgement is below the next one
    ack_below : (v number : ℕ) (rest : List Content) → pairs.mail from to ≡ LogAck v number ∷ rest → from ≡ standby_node shape.nodes v → to ≡ v →
        number < (pairs.standbys to).part.next
    ack_below v number rest waits giver receiver =
        let here : pairs.mail (standby_node shape.nodes v) v ≡ LogAck v number ∷ rest =
        ap (λ (n : ℕ). pairs.mail n v) (sym giver) ∙ ap (pairs.mail from) (sym receiver) ∙ waits in
        let below : number < (pairs.standbys v).part.next =
        All-head (IsAckBelow v (pairs.standbys v).part.next) (LogAck v number) rest
        (subst (All (IsAckBelow v (pairs.standbys v).part.next)) here (are.streams v).acknowledged) refl in
        subst (λ n. number < (pairs.standbys n).part.next) (sym receiver) below

    -- the first message on its way came
    first_kept : (content : Content) (rest : List Content) → pairs.mail from to ≡ content ∷ rest →
        HasStreams shape (after_message shape (record pairs { mail = with_way pairs.mail from to rest }) from to content mark)
    first_kept (Log v number entry) rest waits =
        let between : (from ≡ v) × (to ≡ standby_node shape.nodes v) =
        All-head (IsBetween shape.nodes from to) (Log v number entry) rest (subst (All (IsBetween shape.nodes from to)) waits (are.ways from to)) in
        log_kept v number entry rest waits between.0 between.1
    first_kept (LogAck v number) rest waits =
        let between : (from ≡ standby_node shape.nodes v) × (to ≡ v) =
        All-head (IsBetween shape.nodes from to) (LogAck v number) rest (subst (All (IsBetween shape.nodes from to)) waits (are.ways from to)) in
        plain_kept (LogAck v number) rest waits (λ u. refl) refl (ack_below v number rest waits between.0 between.1)
    first_kept content rest waits = plain_kept content rest waits (λ u. refl) refl tt

    -- or there was none
    queue_kept : (queue : List Content) → pairs.mail from to ≡ queue → HasStreams shape (after_first shape pairs from to mark queue)
    queue_kept [] waits = are
    queue_kept (content ∷ rest) waits = first_kept content rest waits

  -- any event
  pub event_kept : (pairs : PairWorld) (event : QueueEvent) → HasStreams shape pairs → HasStreams shape (after_pair_event shape pairs event)
  unfolding after_pair_event
  event_kept pairs (deliver from to mark) are = queue_kept pairs are from to mark (pairs.mail from to) refl
  event_kept pairs (take_line number text said) are =
      front_kept (record pairs { lines = pairs.lines + 1 }) are (fed_front (nothing_noted shape) pairs.front number text said)
      (line_sends shape pairs.front number text said)
  event_kept pairs other are = are

  -- events, first to last
  events_kept : (events : List QueueEvent) (pairs : PairWorld) → HasStreams shape pairs → HasStreams shape (fold (after_pair_event shape) pairs events)
  events_kept [] pairs are = are
  events_kept (event ∷ events) pairs are = events_kept events (after_pair_event shape pairs event) (event_kept pairs event are)

  -- any run
  pub streams_after : (events : List QueueEvent) → HasStreams shape (pair_world_after shape events)
  unfolding pair_world_after
  streams_after events = events_kept events (first_pair_world shape) streams_at_first

  module _ (v : ℕ) (below : v < shape.nodes) where
    -- what the standby took last is acknowledged, or its acknowledgement is on its way
    abbrev Hears : PairWorld → Type 0
    Hears pairs = IsHeardAt shape.nodes pairs.primaries pairs.standbys pairs.mail v

    -- the node is no front
    apart : v ≢ FRONT
    apart same = let bounds = node_count-bounds shape.nodes counted in omega (arith, bounds.1, below, same)

    -- but an actor
    acting : ltb v ACTORS ≡ true
    acting = let bounds = node_count-bounds shape.nodes counted in lt-ltb v ACTORS (omega (arith, bounds.1, below))

    module _ (pairs : PairWorld) (are : HasStreams shape pairs) (hears : Hears pairs) (from to : ℕ) (mark : Bool) where
      -- a message that is no log record came
      plain_heard : (content : Content) (rest : List Content) → pairs.mail from to ≡ content ∷ rest →
          logged_at content ≡ None → IsBelow (pairs.standbys to).part.next content →
          (content ≡ LogAck v ((pairs.standbys v).part.next - 1) → to ≡ v) →
          Hears (after_message shape (record pairs { mail = with_way pairs.mail from to rest }) from to content mark)
      plain_heard content rest waits unlogged small own =
          let left : PairWorld = record pairs { mail = with_way pairs.mail from to rest } in
          elim (eqb to FRONT) as
          (λ b. (eqb to FRONT ≡ b) → Hears
          (cond b (front_acts left (delivered_front (nothing_noted shape) left.front from content mark))
          (replica_acts shape left from to content mark (logged_at content)))) [
            | true ↦ λ front.
                heard_passed shape.nodes pairs.primaries pairs.standbys pairs.mail v from to content rest waits FRONT _
                (λ same. apart (sym (own same) ∙ eqb-true to FRONT front)) hears
            | false ↦ λ node.
                subst (λ (o : Option ℕ). Hears (replica_acts shape left from to content mark o)) (sym unlogged)
                (primary_heard shape.nodes pairs.primaries pairs.standbys pairs.mail v from to content rest waits are mark small own hears)
          ]
          refl

      -- a log record came
      log_heard : (u number : ℕ) (content : LogRec) (rest : List Content) → pairs.mail from to ≡ Log u number content ∷ rest → from ≡ u →
          to ≡ standby_node shape.nodes u →
          Hears (after_message shape (record pairs { mail = with_way pairs.mail from to rest }) from to (Log u number content) mark)
      log_heard u number content rest waits giver receiver =
          let left : PairWorld = record pairs { mail = with_way pairs.mail from to rest } in
          elim (eqb to FRONT) as
          (λ b. (eqb to FRONT ≡ b) → Hears
          (cond b (front_acts left (delivered_front (nothing_noted shape) left.front from (Log u number content) mark))
          (replica_acts shape left from to (Log u number content) mark (Some u)))) [
            | true ↦ λ front. absurd (standby_apart u (sym receiver ∙ eqb-true to FRONT front))
            | false ↦ λ node. taken from to giver receiver waits
          ]
          refl
        where
          -- whoever they are
          taken : (from to : ℕ) → from ≡ u → to ≡ standby_node shape.nodes u → pairs.mail from to ≡ Log u number content ∷ rest →
              Hears (replica_acts shape (record pairs { mail = with_way pairs.mail from to rest }) from to (Log u number content) mark (Some u))
          taken from to giver receiver waits =
              subst (λ n. pairs.mail n to ≡ Log u number content ∷ rest → Hears
              (replica_acts shape (record pairs { mail = with_way pairs.mail n to rest }) n to (Log u number content) mark (Some u))) (sym giver)
              (subst (λ n. pairs.mail u n ≡ Log u number content ∷ rest → Hears
              (replica_acts shape (record pairs { mail = with_way pairs.mail u n rest }) u n (Log u number content) mark (Some u))) (sym receiver)
              (λ waits. standby_heard shape.nodes pairs.primaries pairs.standbys pairs.mail v u number content rest waits are acting hears))
              waits

      -- the first message on its way came
      first_heard : (content : Content) (rest : List Content) → pairs.mail from to ≡ content ∷ rest →
          Hears (after_message shape (record pairs { mail = with_way pairs.mail from to rest }) from to content mark)
      first_heard (Log u number entry) rest waits =
          let between : (from ≡ u) × (to ≡ standby_node shape.nodes u) =
          All-head (IsBetween shape.nodes from to) (Log u number entry) rest (subst (All (IsBetween shape.nodes from to)) waits (are.ways from to)) in
          log_heard u number entry rest waits between.0 between.1
      first_heard (LogAck u number) rest waits =
          let between : (from ≡ standby_node shape.nodes u) × (to ≡ u) =
          All-head (IsBetween shape.nodes from to) (LogAck u number) rest (subst (All (IsBetween shape.nodes from to)) waits (are.ways from to)) in
          plain_heard (LogAck u number) rest waits refl (ack_below pairs are from to mark u number rest waits between.0 between.1)
          (λ same. (let own : u ≡ v = cc in between.1 ∙ own))
      first_heard content rest waits = plain_heard content rest waits refl tt (λ same. absurd (cc))

      -- or there was none
      queue_heard : (queue : List Content) → pairs.mail from to ≡ queue → Hears (after_first shape pairs from to mark queue)
      queue_heard [] waits = hears
      queue_heard (content ∷ rest) waits = first_heard content rest waits

    -- any event
    event_heard : (pairs : PairWorld) (event : QueueEvent) → HasStreams shape pairs → Hears pairs → Hears (after_pair_event shape pairs event)
    unfolding after_pair_event
    event_heard pairs (deliver from to mark) are hears = queue_heard pairs are hears from to mark (pairs.mail from to) refl
    event_heard pairs (take_line number text said) are hears =
        heard_mailed shape.nodes pairs.primaries pairs.standbys pairs.mail v FRONT
        (fed_front (nothing_noted shape) pairs.front number text said).step.sends hears
    event_heard pairs other are hears = hears

    -- events, first to last
    events_heard : (events : List QueueEvent) (pairs : PairWorld) → HasStreams shape pairs → Hears pairs → Hears (fold (after_pair_event shape) pairs events)
    events_heard [] pairs are hears = hears
    events_heard (event ∷ events) pairs are hears =
        events_heard events (after_pair_event shape pairs event) (event_kept pairs event are) (event_heard pairs event are hears)

    -- any run
    heard_after : (events : List QueueEvent) → Hears (pair_world_after shape events)
    unfolding pair_world_after
    heard_after events = events_heard events (first_pair_world shape) streams_at_first (inl refl)

-- each virtual node is one log
pub pairs_are_one_log : PairsAreOneLog
pairs_are_one_log shape events size may v below =
    let is = (streams_after shape size.counted events).streams v in
    record {
      way = is.way;
      logs = is.logs;
      ships = is.shipped;
      primary = record { part = is.primary_said.state; decisions = is.primary_said.decided };
      standby = record { part = is.standby_said.state; decisions = is.standby_said.decided };
      acks = is.acknowledged;
      acked = is.acked;
      heard = heard_after shape size.counted v below events;
    }

-- no log record is on its way
none_left : (v : ℕ) (way : List LogEntry) → [] ≡ map (log_of v) way → way ≡ []
none_left v [] none = refl
none_left v (entry ∷ way) none = absurd (cc)

-- so both replicas are equal where nothing is on its way to the standby
pub pairs_agree : PairsAgree
pairs_agree shape pairs v is quiet =
    let none : is.way ≡ [] = none_left v is.way (sym (ap (filter (is_log_of v)) quiet) ∙ is.ships) in
    let same : (pairs.primaries v).part.log ≡ (pairs.standbys v).part.log =
    is.logs ∙ ap (λ (way : List LogEntry). (pairs.standbys v).part.log ++ way) none ∙ append-nil (pairs.standbys v).part.log in
    record {
      part = is.primary.part ∙ ap part_of same ∙ sym is.standby.part;
      decisions = is.primary.decisions ∙ ap (decisions_from []) same ∙ sym is.standby.decisions;
    }

-- and all of the log is acknowledged where nothing is on its way back either
pub all_is_acknowledged : AllIsAcknowledged
all_is_acknowledged shape pairs v is quiet silent =
    let same : (pairs.primaries v).part ≡ (pairs.standbys v).part = (pairs_agree shape pairs v is quiet).part in
    ⊎_elim (λ heard. heard ∙ ap (λ (part : State). part.next) (sym same))
    (λ waits. absurd (let none = subst (λ (acks : List Content). Contains acks (LogAck v ((pairs.standbys v).part.next - 1))) silent waits in
    let within = none.1 in omega (arith, within)))
    is.heard
