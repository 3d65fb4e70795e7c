-- Each message on its way after a run of pairs is in range, where what the firm system has is.
use Rattle.std.proofs.Common.{◌≡◌, ℕ, ◌<◌, Bool, true, false, cond, eqb, List, [], ◌∷◌, map, filter, All, Option, Some, None, refl, sym, ap, ◌∙◌, subst, subst₂, arith}
use Rattle.std.proofs.lemmas.Bool.{true≢false, cond-true, cond-false, cond_both, eq-eqb}
use Rattle.std.proofs.lemmas.List.Elements.{All-nil, All-cons, All-head, All-tail, All-append, All-map, All-weaker}
use Rattle.cl_fields.specs.Range.{IsVirtualNode, IsNumber, IsEntry}
use Rattle.cl_front.specs.Front.{delivered_front, fed_front}
use Rattle.cl_log.specs.LogEntry.{LogEntry}
use Rattle.cl_node.specs.Members.{standby_node}
use Rattle.cl_paired.proofs.Seeing.{at_once_seen}
use Rattle.cl_pairs.proofs.Keeping.{IsStream, addressed_outward, modes_with-mode}
use Rattle.cl_pairs.proofs.Mail.{mailed_all, popped_all}
use Rattle.cl_pairs.proofs.Shipping.{IsOutward, modes_with, HasShipped, shipped-step}
use Rattle.cl_pairs.proofs.Streams.{HasStreams, streams_after}
use Rattle.cl_pairs.specs.Pairs.{PairWorld, front_acts, logged_at, replica_acts, after_message, after_first, after_pair_event, pair_world_after}
use Rattle.cl_pairs.specs.Streams.{is_log_of, log_of}
use Rattle.cl_ranges.specs.Ranges.{IsWorldInRange}
use Rattle.cl_roster.specs.Roster.{IsClusterSize}
use Rattle.cl_runs.specs.Queues.{QueueEvent, deliver, take_line}
use Rattle.cl_runs.specs.World.{Shape}
use Rattle.cl_seen.proofs.Lists.{All-first, All-second}
use Rattle.cl_seen.specs.Laws.{IsSeen}
use Rattle.cl_seen.specs.Seen.{is_internal, outward, to_tell, seen_events}
use Rattle.cl_seen.specs.Ways.{IsPairAddressed}
use Rattle.cl_steps.specs.declared.actors.TheConstants.{FRONT}
use Rattle.cl_steps.specs.declared.steps.Outgoing.{Outgoing}
use Rattle.cl_steps.specs.Steps.{sent}
use Rattle.cl_system.proofs.Sends.{AreSent, IsSent, line_sends, message_sends}
use Rattle.cl_system.specs.Firm.{FirmWorld, firm_world_after}
use Rattle.cl_system.specs.Replicas.{Mail, nothing_noted, own_primary, with_mail, with_way}
use Rattle.cl_types.proofs.PlacementLaws.{node_count-bounds}
use Rattle.cl_types.specs.Placement.{IsNodeCount}
use Rattle.cl_vnode.specs.Replica.{ReplicaState}
use Rattle.cl_vnode.specs.Standby.{standby_stepped}
use Rattle.cl_vnode.specs.Step.{stepped, log_message}
use Rattle.cl_wire.specs.Message.{Content, Log, LogAck}
use Rattle.cl_wire.specs.Range.{IsContent}

-- ---- acknowledgements

-- an acknowledgement has a number in range
abbrev pub IsAckInRange : Content → Type 0
IsAckInRange (LogAck v number) = IsNumber number
IsAckInRange content = Unit {0}

-- so has each on its way
abbrev pub AreAcksInRange : PairWorld → Type 0
AreAcksInRange pairs = (from to : ℕ) → All IsAckInRange (pairs.mail from to)

-- what is not between a primary and its standby is none
outward_no_ack : (content : Content) → IsOutward content → IsAckInRange content
outward_no_ack (LogAck v number) outward = absurd outward
outward_no_ack content outward = tt

-- what the front sends is none
front_sends : (nodes : ℕ) (sends : List Outgoing) → AreSent nodes FRONT sends → All (λ send. IsAckInRange send.payload) sends
front_sends nodes sends are =
    All-weaker (IsSent nodes FRONT) (λ (send : Outgoing). IsAckInRange send.payload)
    (λ send is. outward_no_ack send.payload (addressed_outward nodes FRONT send.to send.payload is)) sends are

-- what a primary ships is none
log_sends : (standby v : ℕ) (entries : List LogEntry) → All (λ send. IsAckInRange send.payload) (map (log_message standby v) entries)
log_sends standby v [] = All-nil (λ (send : Outgoing). IsAckInRange send.payload)
log_sends standby v (entry ∷ entries) =
    All-cons (λ (send : Outgoing). IsAckInRange send.payload) (log_message standby v entry) (map (log_message standby v) entries) tt
    (log_sends standby v entries)

-- what a standby sends acknowledges the record that came
standby_sends : (state : ReplicaState) (from : ℕ) (content : Content) → IsContent content →
    All (λ send. IsAckInRange send.payload) (standby_stepped state from content).step.sends
standby_sends state from (Log v number entry) is =
    All-cons (λ (send : Outgoing). IsAckInRange send.payload) (sent from (LogAck v number)) [] is.1 (All-nil (λ (send : Outgoing). IsAckInRange send.payload))
standby_sends state from content is = All-nil (λ (send : Outgoing). IsAckInRange send.payload)

-- what else a primary sends is none
primary_sends : (nodes v : ℕ) (primary standby : ReplicaState) (ships acks : List Content) (from : ℕ) (content : Content) (mark : Bool) →
    IsStream nodes v primary standby ships acks →
    All (λ send. IsAckInRange send.payload) (stepped own_primary primary from content mark).step.sends
primary_sends nodes v primary standby ships acks from content mark is =
    let shipped : HasShipped (standby_node nodes v) primary (modes_with primary.modes content) (stepped own_primary primary from content mark)
    = shipped-step own_primary (standby_node nodes v) primary from content mark is.primary_said (modes_with-mode primary.modes content ∙ is.mode) in
    subst (All (λ (send : Outgoing). IsAckInRange send.payload)) (sym shipped.sends)
    (All-append (λ (send : Outgoing). IsAckInRange send.payload) (map (log_message (standby_node nodes v) primary.v) shipped.news) shipped.others
    (log_sends (standby_node nodes v) primary.v shipped.news)
    (All-weaker (λ (send : Outgoing). IsOutward send.payload) (λ (send : Outgoing). IsAckInRange send.payload)
    (λ send out. outward_no_ack send.payload out) shipped.others shipped.outward))

module _ (shape : Shape) (pairs : PairWorld) (streams : HasStreams shape pairs) (acks : AreAcksInRange pairs) where
  -- more was sent
  mailed : (mail : Mail) (giver : ℕ) (sends : List Outgoing) → ((from to : ℕ) → All IsAckInRange (mail from to)) →
      All (λ send. IsAckInRange send.payload) sends →
      (from to : ℕ) → All IsAckInRange (with_mail mail giver sends from to)
  mailed mail giver sends are new from to = mailed_all (λ a b content. IsAckInRange content) giver mail sends from to (are from to) new

  module _ (from to : ℕ) (content : Content) (rest : List Content) (mark : Bool) (waits : pairs.mail from to ≡ content ∷ rest) (is : IsContent content) where
    -- the system once the message is taken off
    abbrev off : PairWorld
    off = record pairs { mail = with_way pairs.mail from to rest }

    -- acknowledgements are in range then
    off_acks : AreAcksInRange off
    off_acks a b = popped_all IsAckInRange pairs.mail from to content rest a b waits (acks a b)

    -- it came to a node
    node_acks : (log : Option ℕ) → AreAcksInRange (replica_acts shape off from to content mark log)
    node_acks (Some v) =
        mailed off.mail (standby_node shape.nodes v) (standby_stepped (pairs.standbys v) from content).step.sends off_acks
        (standby_sends (pairs.standbys v) from content is)
    node_acks None =
        mailed off.mail to (stepped own_primary (pairs.primaries to) from content mark).step.sends off_acks
        (primary_sends shape.nodes to (pairs.primaries to) (pairs.standbys to) (pairs.mail to (standby_node shape.nodes to))
        (pairs.mail (standby_node shape.nodes to) to) from content mark (streams.streams to))

    -- or to any actor
    message_acks : AreAcksInRange (after_message shape off from to content mark)
    message_acks =
        cond_both (eqb to FRONT) (front_acts off (delivered_front (nothing_noted shape) off.front from content mark))
        (replica_acts shape off from to content mark (logged_at content)) AreAcksInRange
        (λ here. mailed off.mail FRONT (delivered_front (nothing_noted shape) off.front from content mark).step.sends off_acks
        (front_sends shape.nodes (delivered_front (nothing_noted shape) off.front from content mark).step.sends
        (message_sends shape off.front from content mark)))
        (λ elsewhere. node_acks (logged_at content))

  -- the first message on its way came
  first_acks : (from to : ℕ) (mark : Bool) (contents : List Content) → pairs.mail from to ≡ contents → All IsContent contents →
      AreAcksInRange (after_first shape pairs from to mark contents)
  first_acks from to mark [] waits are = acks
  first_acks from to mark (content ∷ rest) waits are = message_acks from to content rest mark waits (All-head IsContent content rest are)

  -- after any event they are in range, where all messages are before it
  pub event_acks : ((from to : ℕ) → All IsContent (pairs.mail from to)) → (event : QueueEvent) → AreAcksInRange (after_pair_event shape pairs event)
  unfolding after_pair_event
  event_acks are (deliver from to mark) = first_acks from to mark (pairs.mail from to) refl (are from to)
  event_acks are (take_line number text said) =
      mailed pairs.mail FRONT (fed_front (nothing_noted shape) pairs.front number text said).step.sends acks
      (front_sends shape.nodes (fed_front (nothing_noted shape) pairs.front number text said).step.sends (line_sends shape pairs.front number text said))
  event_acks are other = acks

-- ---- all messages

-- what holds of all that pass a test holds of each, if it passes
all_passing : (is : Content → Bool) (P : Content → Type 0) (contents : List Content) → All P (filter is contents) →
    All (λ content. is content ≡ true → P content) contents
all_passing is P [] all = All-nil (λ (content : Content). is content ≡ true → P content)
all_passing is P (content ∷ rest) all = by (is content) refl (all_passing is P rest)
  where
    by : (b : Bool) → is content ≡ b → (All P (filter is rest) → All (λ c. is c ≡ true → P c) rest) → All (λ c. is c ≡ true → P c) (content ∷ rest)
    by true pass more =
        let here : All P (content ∷ filter is rest) = subst (All P) (cond-true (is content) _ _ pass) all in
        All-cons (λ (c : Content). is c ≡ true → P c) content rest (λ _. All-head P content (filter is rest) here)
        (more (All-tail P content (filter is rest) here))
    by false stop more =
        All-cons (λ (c : Content). is c ≡ true → P c) content rest (λ pass. absurd (true≢false (sym pass ∙ stop)))
        (more (subst (All P) (cond-false (is content) _ _ stop) all))

-- a virtual node of the system is in range
node_range : (nodes v : ℕ) → IsNodeCount nodes → v < nodes → IsVirtualNode v
node_range nodes v counted below = let bounds = node_count-bounds nodes counted in omega (arith, bounds.1, below)

module _ (nodes from to : ℕ) (counted : IsNodeCount nodes) where
  -- one message, by who gives it to whom
  one_range : (content : Content) → IsPairAddressed nodes from to content → (cond (is_internal content) false true ≡ true → IsContent content) →
      ((v : ℕ) → v < nodes → from ≡ v → to ≡ standby_node nodes v → is_log_of v content ≡ true → IsContent content) → IsAckInRange content → IsContent content
  one_range (Log v number entry) way out logs ack = logs v way.node way.giver way.receiver (eq-eqb v v refl)
  one_range (LogAck v number) way out logs ack = (node_range nodes v counted way.node, ack)
  one_range content way out logs ack = out refl

module _ (shape : Shape) (size : IsClusterSize shape.nodes shape.spares) (events : List QueueEvent) (is_seen : IsSeen shape events)
    (range : IsWorldInRange (firm_world_after shape (seen_events shape events)).world) where
  -- the pairs after the run
  abbrev after : PairWorld
  after = pair_world_after shape events

  -- the firm system beside them
  abbrev firm : FirmWorld
  firm = firm_world_after shape (seen_events shape events)

  -- the log of a primary is in range
  log_range : (v : ℕ) → v < shape.nodes → All (λ entry. IsNumber entry.number × IsEntry entry.content) (after.primaries v).part.log
  log_range v below =
      let same : (firm.world.replicas v).part.log ≡ (after.primaries v).part.log
      = ap (λ (state : ReplicaState). state.part.log) (sym (is_seen.replicas v below) ∙ at_once_seen own_primary (after.primaries v)
      (is_seen.paired v below)) in
      subst (All (λ (entry : LogEntry). IsNumber entry.number × IsEntry entry.content)) same (range.replicas v).part.log

  -- so is each log record on its way
  logs_range : (v : ℕ) → v < shape.nodes → All (λ content. is_log_of v content ≡ true → IsContent content) (after.mail v (standby_node shape.nodes v))
  logs_range v below =
      let stream = (streams_after shape size.counted events).streams v in
      let way : All (λ (entry : LogEntry). IsNumber entry.number × IsEntry entry.content) stream.way
      = All-second (λ (entry : LogEntry). IsNumber entry.number × IsEntry entry.content) (after.standbys v).part.log stream.way
      (subst (All (λ (entry : LogEntry). IsNumber entry.number × IsEntry entry.content)) stream.logs (log_range v below)) in
      all_passing (is_log_of v) IsContent (after.mail v (standby_node shape.nodes v)) (subst (All IsContent) (sym stream.shipped)
      (All-map IsContent (log_of v) stream.way (All-weaker (λ (entry : LogEntry). IsNumber entry.number × IsEntry entry.content)
      (λ (entry : LogEntry). IsContent (log_of v entry))
      (λ entry is. (node_range shape.nodes v size.counted below, is.0, is.1)) stream.way way)))

  -- and each outward message
  outward_range : (from to : ℕ) → All (λ content. cond (is_internal content) false true ≡ true → IsContent content) (after.mail from to)
  outward_range from to =
      all_passing (λ content. cond (is_internal content) false true) IsContent (after.mail from to)
      (All-first IsContent (outward (after.mail from to)) (to_tell shape.nodes after from to)
      (subst (All IsContent) (is_seen.mail from to) (range.mail from to)))

  -- so all are, where acknowledgements are
  pub mail_range : ((from to : ℕ) → All (IsPairAddressed shape.nodes from to) (after.mail from to)) → AreAcksInRange after → (from to : ℕ) →
      All IsContent (after.mail from to)
  mail_range addressed acks from to =
      let logs : (v : ℕ) → v < shape.nodes → from ≡ v → to ≡ standby_node shape.nodes v → All (λ content. is_log_of v content ≡ true → IsContent content)
      (after.mail from to)
      = λ v below giver receiver. subst₂ (λ a b. All (λ content. is_log_of v content ≡ true → IsContent content) (after.mail a b)) (sym giver) (sym receiver)
      (logs_range v below) in
      let out = outward_range from to in
      λ k d h. one_range shape.nodes from to size.counted _ (addressed from to k d h) (out k d h) (λ v below giver receiver. logs v below giver receiver k d h)
      (acks from to k d h)
