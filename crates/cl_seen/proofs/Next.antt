-- What may happen next fits, is seen as events of the firm system, and keeps what else holds.
use Rattle.std.proofs.Common.{◌≡◌, ℕ, ◌+◌, ◌<◌, max, eqb, Bool, true, false, List, ◌∷◌, ◌++◌, length, All, refl, sym, ◌∙◌, ap, subst, arith}
use Rattle.std.proofs.lemmas.Bool.{true≢false, ne_eqb, eq-eqb, eqb-true, cond-true, cond-false}
use Rattle.std.proofs.lemmas.List.Elements.{All-head}
use Rattle.cl_node.specs.Members.{standby_node}
use Rattle.cl_actor.specs.Core.{CoreStep}
use Rattle.cl_commit.specs.Life.{CommitsWhole}
use Rattle.cl_exchange.specs.Laws.{IsSoundWorld, EventsFit, EventsKeepSound}
use Rattle.cl_front.specs.Front.{FrontState, delivered_front, fed_front, quiet_front, DeliveryFits, LineFits}
use Rattle.cl_log.specs.declared.records.LogRec.{LogRec}
use Rattle.cl_log.specs.Lawful.{IsLawfulLog}
use Rattle.cl_paired.proofs.Seeing.{at_once_seen}
use Rattle.cl_paired.specs.Laws.{IsUnawaited, FitsBoth, StepsAreSeenAlone, AcksTell}
use Rattle.cl_part.specs.Sound.{RecordsKeepReplica}
use Rattle.cl_roster.specs.Roster.{IsClusterSize}
use Rattle.cl_runs.specs.Queues.{QueueEvent, deliver, take_line, quieten}
use Rattle.cl_runs.specs.World.{Shape}
use Rattle.cl_steps.specs.declared.actors.TheConstants.{FRONT}
use Rattle.cl_system.proofs.Places.{receiver_below, fits_replica}
use Rattle.cl_system.proofs.Sends.{line_sends, message_sends}
use Rattle.cl_system.specs.Firm.{FirmWorld, TellsFirm}
use Rattle.cl_system.specs.Replicas.{ReplicaWorld, nothing_noted, own_primary, with_way, MessageFits}
use Rattle.cl_system.specs.Roles.{IsAddressed}
use Rattle.cl_types.proofs.PlacementLaws.{node_count-bounds}
use Rattle.cl_types.specs.Placement.{IsNodeCount}
use Rattle.cl_vnode.specs.Inputs.{Fits}
use Rattle.cl_vnode.specs.Replica.{ReplicaState}
use Rattle.cl_vnode.specs.Standby.{standby_stepped}
use Rattle.cl_vnode.specs.Step.{Stepped, stepped}
use Rattle.cl_wire.specs.Message.{Content, Log, LogAck}
use Rattle.cl_seen.proofs.Decided.{HasDecided}
use Rattle.cl_seen.proofs.Events.{outward_no_ack, outward_no_log, line_seen, quiet_seen, nothing_seen, head_is, front_seen, primary_seen, ack_seen}
use Rattle.cl_seen.proofs.Events.{log_seen}
use Rattle.cl_seen.proofs.Fits.{IsNext, waiting_firm, mode_below, log_decided, log_next, ack_below, unawaited, primary_fits, log_fits}
use Rattle.cl_seen.proofs.Kept.{line_safe, quiet_safe, heard_safe, primary_safe, standby_safe, step_firm}
use Rattle.cl_seen.proofs.Telling.{acks_tell_firm}
use Rattle.cl_pairs.proofs.Streams.{HasStreams}
use Rattle.cl_pairs.proofs.Keeping.{IsBetween}
use Rattle.cl_seen.proofs.Beside.{Sees, SeesEvent, IsInternalBelow, IsSafe}
use Rattle.cl_pairs.specs.Pairs as pair
use Rattle.cl_seen.specs.Seen.{is_internal, outward, to_tell, seen_event}
use Rattle.cl_pairs.specs.Streams.{IsAckBelow}

-- what holds of both systems between two events
pub record Knows (shape : Shape) (pairs : pair.PairWorld) (firm : FirmWorld) : Type 0 where
  pub sees : Sees shape pairs firm
  pub sound : IsSoundWorld shape firm.world
  pub whole : CommitsWhole shape firm.world
  pub decided : HasDecided firm.world
  pub lawful : (v : ℕ) → v < shape.nodes → IsLawfulLog firm.firm (firm.world.replicas v).part.log
  pub streams : HasStreams shape pairs
  pub safe : IsSafe shape pairs

-- what is to be shown of an event
pub record IsGood (shape : Shape) (pairs : pair.PairWorld) (firm : FirmWorld) (event : QueueEvent) : Type 0 where
  pub seen : SeesEvent shape pairs firm event
  pub safe : IsSafe shape (pair.after_pair_event shape pairs event)

-- what is to be shown of a message
abbrev IsGoodMessage : Shape → pair.PairWorld → FirmWorld → ℕ → ℕ → Bool → Content → Type 0
IsGoodMessage shape pairs firm from to mark content = pair.PairMessageFits shape pairs from to content × IsGood shape pairs firm (deliver from to mark)

-- what fits the front
front_fits : (shape : Shape) (pairs : pair.PairWorld) (from to : ℕ) (content : Content) → eqb to FRONT ≡ true →
    DeliveryFits (nothing_noted shape) pairs.front from content →
    pair.PairMessageFits shape pairs from to content
front_fits shape pairs from to content here fits = rw here fits

-- what fits a node
node_fits : (shape : Shape) (pairs : pair.PairWorld) (from to : ℕ) (content : Content) → eqb to FRONT ≡ false →
    pair.FitsReplica shape pairs to content (pair.logged_at content) →
    pair.PairMessageFits shape pairs from to content
node_fits shape pairs from to content away fits = rw away fits

-- what fits the front of the firm system
fits_front : (shape : Shape) (world : ReplicaWorld) (from to : ℕ) (content : Content) → eqb to FRONT ≡ true → MessageFits shape world from to content →
    DeliveryFits (nothing_noted shape) world.front from content
fits_front shape world from to content here fits = rw here at fits

-- a node is not the front
node_away : (nodes v : ℕ) → IsNodeCount nodes → v < nodes → eqb v FRONT ≡ false
node_away nodes v counted below = let bounds = node_count-bounds nodes counted in ne_eqb v FRONT
    (λ e. let same : v ≡ 16 = e in absurd (omega (arith, bounds.1, below, same)))

-- each standby is at a node
standby_under : (nodes v : ℕ) → IsNodeCount nodes → standby_node nodes v < nodes
standby_under nodes v counted = let bounds = node_count-bounds nodes counted in omega (arith, bounds.0)

module _ (steps : StepsAreSeenAlone) (acks : AcksTell) (both : FitsBoth) (keep : EventsKeepSound) (events_fit : EventsFit) (keeps : RecordsKeepReplica)
    (shape : Shape) (size : IsClusterSize shape.nodes shape.spares) (pairs : pair.PairWorld) (firm : FirmWorld) (knows : Knows shape pairs firm) where
  -- the controllers know how many virtual nodes there are
  nodes_same : (v : ℕ) → v < shape.nodes → (pairs.primaries v).control.nodes ≡ shape.nodes
  nodes_same v below =
      sym (ap (λ (state : ReplicaState). state.control.nodes)
      (sym (knows.sees.replicas v below) ∙ at_once_seen own_primary (pairs.primaries v) (knows.sees.paired v below)))
      ∙ (knows.sound.places.replicas v below).same_nodes

  module _ (from to : ℕ) (mark : Bool) where
    -- a message that is not between a primary and its standby
    outward_good : (content : Content) (rest : List Content) → pairs.mail from to ≡ content ∷ rest → is_internal content ≡ false →
        IsGoodMessage shape pairs firm from to mark content
    unfolding pair.after_pair_event
    outward_good content rest waits out = by (eqb to FRONT) refl
      where
        -- it is the head in the firm system
        head : firm.world.mail from to ≡ content ∷ (outward rest ++ to_tell shape.nodes pairs from to)
        head = head_is shape size keep pairs firm knows.sees knows.sound from to mark content rest waits out

        -- it goes between the actors that its kind names
        addressed : IsAddressed shape.nodes from to content
        addressed = All-head (IsAddressed shape.nodes from to) content (outward rest ++ to_tell shape.nodes pairs from to)
            (subst (All (IsAddressed shape.nodes from to)) head (knows.sound.places.messages from to))

        -- it fits there
        fit : MessageFits shape firm.world from to content
        fit = events_fit shape firm.world (deliver from to mark) size knows.sound (content, outward rest ++ to_tell shape.nodes pairs from to, head)
            content (outward rest ++ to_tell shape.nodes pairs from to) head

        -- it tells of firm commits alone
        tells : TellsFirm firm.firm content
        tells = subst (λ history. TellsFirm history content) knows.sees.history
            (All-head (TellsFirm pairs.history) content rest (subst (All (TellsFirm pairs.history)) waits (knows.safe.tells from to)))

        by : (c : Bool) → eqb to FRONT ≡ c → IsGoodMessage shape pairs firm from to mark content
        by true is =
            let here : to ≡ FRONT = eqb-true to FRONT is in
            let step : CoreStep FrontState = delivered_front (nothing_noted shape) pairs.front from content mark in
            let pairs_are : pair.after_pair_event shape pairs (deliver from to mark) ≡ pair.front_acts
            (record pairs { mail = with_way pairs.mail from to rest }) step
            = ap (pair.after_first shape pairs from to mark) waits ∙ cond-true _ _ _ is in (
              front_fits shape pairs from to content is
                  (subst (λ (front : FrontState). DeliveryFits (nothing_noted shape) front from content) (sym knows.sees.front)
                  (fits_front shape firm.world from to content is fit)),
              record {
                seen = front_seen shape size keep pairs firm knows.sees knows.sound from to mark content rest waits out here tells;
                safe = subst (IsSafe shape) (sym pairs_are)
                    (heard_safe shape size.counted pairs knows.safe from to content rest waits step (message_sends shape pairs.front from content mark));
              },
            )
        by false is =
            let below : to < shape.nodes = receiver_below shape.nodes from to content size.counted
            (λ same. absurd (true≢false (sym (eq-eqb to FRONT same) ∙ is))) addressed in
            let fits : Fits shape.nodes (firm.world.replicas to) content = fits_replica shape firm.world from to content is fit in
            let free : IsUnawaited (pairs.primaries to) content
            = unawaited shape size.counted pairs firm knows.sees knows.streams knows.whole knows.decided from to content
            (outward rest ++ to_tell shape.nodes pairs from to) head addressed below fits in
            let mine : Fits shape.nodes (pairs.primaries to) content
            = primary_fits shape size.counted pairs firm knows.sees knows.streams both to content below free fits in
            let step : Stepped = stepped own_primary (pairs.primaries to) from content mark in
            let pairs_are : pair.after_pair_event shape pairs (deliver from to mark) ≡ pair.primary_acts
            (record pairs { mail = with_way pairs.mail from to rest }) to step
            = ap (pair.after_first shape pairs from to mark) waits ∙ cond-false _ _ _ is
            ∙ ap (pair.replica_acts shape (record pairs { mail = with_way pairs.mail from to rest }) from to content mark) (outward_no_log content out) in (
              node_fits shape pairs from to content is (subst (pair.FitsReplica shape pairs to content) (sym (outward_no_log content out)) mine),
              record {
                seen = primary_seen shape size keep pairs firm knows.sees knows.sound from to mark content rest waits out steps below is tells mine free;
                safe = subst (IsSafe shape) (sym pairs_are)
                    (primary_safe shape size.counted pairs knows.safe from to content rest waits knows.streams mark below
                    (step_firm pairs.history (pairs.primaries to) from content mark (knows.sees.paired to below) (outward_no_ack content out)));
              },
            )

    -- a log record
    log_good : (v number : ℕ) (entry : LogRec) (rest : List Content) → pairs.mail from to ≡ Log v number entry ∷ rest →
        IsGoodMessage shape pairs firm from to mark (Log v number entry)
    unfolding pair.after_pair_event
    log_good v number entry rest waits =
        let between : (from ≡ v) × (to ≡ standby_node shape.nodes v)
        = All-head (IsBetween shape.nodes from to) (Log v number entry) rest (subst (All (IsBetween shape.nodes from to)) waits (knows.streams.ways from to)) in
        let below : v < shape.nodes = All-head (IsInternalBelow shape.nodes) (Log v number entry) rest
        (subst (All (IsInternalBelow shape.nodes)) waits (knows.safe.below from to)) in
        let here : pairs.mail v (standby_node shape.nodes v) ≡ Log v number entry ∷ rest
        = ap (λ n. pairs.mail n (standby_node shape.nodes v)) (sym between.0) ∙ (ap (pairs.mail from) (sym between.1) ∙ waits) in
        let away : eqb to FRONT ≡ false
        = node_away shape.nodes to size.counted (subst (λ n. n < shape.nodes) (sym between.1) (standby_under shape.nodes v size.counted)) in
        let next : IsNext (pairs.standbys v).part number entry
        = log_next shape size.counted pairs firm knows.sees knows.streams knows.safe knows.lawful v number entry rest below here in
        let step : Stepped = standby_stepped (pairs.standbys v) from (Log v number entry) in
        let pairs_are : pair.after_pair_event shape pairs (deliver from to mark) ≡ pair.standby_acts shape.nodes
        (record pairs { mail = with_way pairs.mail from to rest }) v step
        = ap (pair.after_first shape pairs from to mark) waits ∙ cond-false _ _ _ away in (
          node_fits shape pairs from to (Log v number entry) away
              (between.1, log_fits shape size.counted pairs firm knows.sees knows.streams knows.safe v number entry next),
          record {
            seen = log_seen shape size keep pairs firm knows.sees knows.sound from to mark (Log v number entry) rest waits v number entry refl away
                (log_decided shape size.counted pairs firm knows.sees knows.streams knows.decided v number entry rest below here);
            safe = subst (IsSafe shape) (sym pairs_are) (standby_safe shape size.counted pairs knows.safe from to
                (Log v number entry) rest waits keeps v number entry below next);
          },
        )

    -- an acknowledgement
    ack_good : (v number : ℕ) (rest : List Content) → pairs.mail from to ≡ LogAck v number ∷ rest →
        IsGoodMessage shape pairs firm from to mark (LogAck v number)
    unfolding pair.after_pair_event
    ack_good v number rest waits =
        let between : (from ≡ standby_node shape.nodes v) × (to ≡ v)
        = All-head (IsBetween shape.nodes from to) (LogAck v number) rest (subst (All (IsBetween shape.nodes from to)) waits (knows.streams.ways from to)) in
        let under : v < shape.nodes = All-head (IsInternalBelow shape.nodes) (LogAck v number) rest
        (subst (All (IsInternalBelow shape.nodes)) waits (knows.safe.below from to)) in
        let below : to < shape.nodes = subst (λ n. n < shape.nodes) (sym between.1) under in
        let away : eqb to FRONT ≡ false = node_away shape.nodes to size.counted below in
        let here : pairs.mail (standby_node shape.nodes v) v ≡ LogAck v number ∷ rest
        = ap (λ n. pairs.mail n v) (sym between.0) ∙ (ap (pairs.mail from) (sym between.1) ∙ waits) in
        let taken_v : number < (pairs.standbys v).part.next
        = All-head (IsAckBelow v (pairs.standbys v).part.next) (LogAck v number) rest
        (subst (All (IsAckBelow v (pairs.standbys v).part.next)) here (knows.streams.streams v).acknowledged) refl in
        let taken : number < (pairs.standbys to).part.next = subst (λ n. number < (pairs.standbys n).part.next) (sym between.1) taken_v in
        let small : number < (pairs.primaries to).part.next
        = ack_below shape size.counted pairs firm knows.sees knows.streams knows.safe to number below taken in
        let stream = knows.streams.streams to in
        let most : max (pairs.primaries to).modes.acked number < length (pairs.standbys to).part.log + 1
        = (let acked = stream.acked in let next = (knows.safe.sound to below).next in omega (arith, acked, taken, next)) in
        let step : Stepped = stepped own_primary (pairs.primaries to) from (LogAck v number) mark in
        let pairs_are : pair.after_pair_event shape pairs (deliver from to mark) ≡ pair.primary_acts
        (record pairs { mail = with_way pairs.mail from to rest }) to step
        = ap (pair.after_first shape pairs from to mark) waits ∙ cond-false _ _ _ away in
        let fits : Fits shape.nodes (pairs.primaries to) (LogAck v number)
        = record { same_nodes = sym (nodes_same to below); comes = small; standby = mode_below shape size.counted pairs firm knows.sees knows.streams to } in (
          node_fits shape pairs from to (LogAck v number) away fits,
          record {
            seen = ack_seen shape size keep pairs firm knows.sees knows.sound from to mark (LogAck v number) rest waits acks v number refl below away small;
            safe = subst (IsSafe shape) (sym pairs_are)
                (primary_safe shape size.counted pairs knows.safe from to (LogAck v number) rest waits knows.streams mark below
                (acks_tell_firm pairs.history own_primary (pairs.primaries to) from v number mark (knows.sees.paired to below)
                (waiting_firm pairs.history (max (pairs.primaries to).modes.acked number) (pairs.primaries to) (pairs.standbys to).part.log stream.way
                (knows.sees.paired to below)
                stream.logs most (knows.safe.firm to below))));
          },
        )

    -- any message
    message_good : (content : Content) (rest : List Content) → pairs.mail from to ≡ content ∷ rest → IsGoodMessage shape pairs firm from to mark content
    message_good (Log v number entry) rest waits = log_good v number entry rest waits
    message_good (LogAck v number) rest waits = ack_good v number rest waits
    message_good content rest waits = outward_good content rest waits refl

  -- what may happen is good
  pub event_good : (event : QueueEvent) → pair.MayPairs pairs event → IsGood shape pairs firm event
  unfolding pair.after_pair_event seen_event
  event_good (deliver from to mark) may = (message_good from to mark may.0 may.1 may.2).1
  event_good (take_line number text said) may = record {
    seen = line_seen shape size keep pairs firm knows.sees knows.sound number text said may;
    safe = line_safe shape size.counted pairs knows.safe (fed_front (nothing_noted shape) pairs.front number text said)
        (line_sends shape pairs.front number text said);
  }
  event_good quieten may = record {
    seen = quiet_seen shape size keep pairs firm knows.sees knows.sound;
    safe = quiet_safe shape size.counted pairs knows.safe (quiet_front pairs.front);
  }
  event_good other may = record { seen = nothing_seen shape size keep pairs firm knows.sees knows.sound other refl refl; safe = knows.safe }

  -- and fits
  pub event_fits : (event : QueueEvent) → pair.MayPairs pairs event → pair.PairEventFits shape pairs event
  event_fits (deliver from to mark) may = λ content rest waits. (message_good from to mark content rest waits).0
  event_fits (take_line number text said) may =
      subst (λ (front : FrontState). LineFits (nothing_noted shape) front number text said) (sym knows.sees.front)
      (events_fit shape firm.world (take_line number text said) size knows.sound (may.0 ∙ ap (λ n. n + 1) knows.sees.lines, may.1))
  event_fits other may = tt
