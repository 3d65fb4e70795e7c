-- Every run of pairs is seen as one of the firm system, by induction over its events, one more at the end.
use Rattle.std.proofs.Common.{◌≡◌, ℕ, nat_lt, cond, true, false, List, [], ◌∷◌, ◌++◌, append_assoc, All, Some, refl, sym, ◌∙◌, ap, subst}
use Rattle.std.proofs.Math.Path.{subst₂}
use Rattle.std.proofs.lemmas.List.{append-nil}
use Rattle.std.proofs.lemmas.List.Elements.{All-nil}
use Rattle.std.proofs.lemmas.List.Sums.{fold-append}
use Rattle.std.specs.List.{fold}
use Rattle.cl_endpoint.specs.declared.limits.TheConstants.{ACTORS}
use Rattle.cl_exchange.specs.Laws.{EventsFit, EventsKeepSound}
use Rattle.cl_ledger.specs.Laws.{IsOrderedRun, FirmRunsKeepOneOrder}
use Rattle.cl_log.specs.Lawful.{IsLawfulLog}
use Rattle.cl_log.specs.LogEntry.{LogEntry}
use Rattle.cl_paired.specs.Laws.{FirstIsPaired, FitsBoth, StepsAreSeenAlone, AcksTell}
use Rattle.cl_paired.specs.Paired.{untold}
use Rattle.cl_part.specs.Sound.{NewIsSound, RecordsKeepReplica}
use Rattle.cl_roster.specs.Roster.{IsClusterSize}
use Rattle.cl_runs.specs.Queues.{sent_to, QueueEvent}
use Rattle.cl_runs.specs.World.{Shape, EachMayHappen}
use Rattle.cl_system.specs.Firm.{FirmWorld, TellsFirm, MayFirm, after_firm_event, first_firm_world, firm_world_after, IsFirmRun}
use Rattle.cl_system.specs.Replicas.{own_primary}
use Rattle.cl_system.specs.Roles.{IsAddressed}
use Rattle.cl_vnode.specs.Replica.{new_replica}
use Rattle.cl_wire.specs.Message.{Content}
use Rattle.cl_seen.proofs.Addressed.{all_addressed}
use Rattle.cl_seen.proofs.Decided.{decided_after}
use Rattle.cl_seen.proofs.Lists.{All-first}
use Rattle.cl_seen.proofs.Next.{Knows, IsGood, event_good, event_fits}
use Rattle.cl_pairs.proofs.Streams.{streams_after}
use Rattle.cl_seen.proofs.Beside.{Sees, IsDecided, IsInternalBelow, IsSafe}
use Rattle.cl_seen.specs.Laws.{IsSeen, PairRunsAreSeen, PairInputsFit, PairMessagesAreAddressed}
use Rattle.cl_pairs.specs.Pairs.{PairWorld, after_pair_event, first_pair_world, pair_world_after, MayPairs, IsPairRun, PairEventFits}
use Rattle.cl_node.specs.Members.{standby_node}
use Rattle.cl_seen.specs.Seen.{outward, to_tell, seen_mail, seen_event, seen_from, seen_events}
use Rattle.cl_seen.specs.Ways.{IsPairAddressed}

-- ---- lists of events

-- what may happen, and then what may happen from there on
pub each_append : {W E : Type 0} (May : W → E → Type 0) (next : W → E → W) (events more : List E) (state : W) →
    EachMayHappen May next events state → EachMayHappen May next more (fold next state events) → EachMayHappen May next (events ++ more) state
each_append May next [] more state may then = then
each_append May next (event ∷ events) more state may then = (may.0, each_append May next events more (next state event) may.1 then)

-- the first ones of events that may happen may happen, and the others after them
pub each_parts : {W E : Type 0} (May : W → E → Type 0) (next : W → E → W) (events more : List E) (state : W) →
    EachMayHappen May next (events ++ more) state → EachMayHappen May next events state × EachMayHappen May next more (fold next state events)
each_parts May next [] more state may = (tt, may)
each_parts May next (event ∷ events) more state may =
    let rest = each_parts May next events more (next state event) may.1 in
    ((may.0, rest.0), rest.1)

module _ {W E : Type 0} (May : W → E → Type 0) (next : W → E → W) (first : W) (Holds : List E → Type 0)
    (keeps : (events : List E) (event : E) → EachMayHappen May next (events ++ event ∷ []) first → Holds events → Holds (events ++ event ∷ [])) where
  -- what holds of some events holds of these and more
  holds_on : (more events : List E) → Holds events → EachMayHappen May next (events ++ more) first → Holds (events ++ more)
  holds_on [] events holds may = subst Holds (sym (append-nil events)) holds
  holds_on (event ∷ more) events holds may =
      let longer : EachMayHappen May next ((events ++ event ∷ []) ++ more) first
      = subst (λ list. EachMayHappen May next list first) (sym (append_assoc events (event ∷ []) more)) may in
      subst Holds (append_assoc events (event ∷ []) more)
      (holds_on more (events ++ event ∷ []) (keeps events event (each_parts May next (events ++ event ∷ []) more first longer).0 holds) longer)

  -- what holds at the start, and of one event more, holds of all that may happen
  pub holds_of_all : Holds [] → (events : List E) → EachMayHappen May next events first → Holds events
  holds_of_all start events may = holds_on events [] start may

-- what two lists of events are
pub seen_append : (shape : Shape) (events more : List QueueEvent) (pairs : PairWorld) →
    seen_from shape (events ++ more) pairs ≡ seen_from shape events pairs ++ seen_from shape more (fold (after_pair_event shape) pairs events)
seen_append shape [] more pairs = refl
seen_append shape (event ∷ events) more pairs =
    ap (λ list. seen_event shape pairs event ++ list) (seen_append shape events more (after_pair_event shape pairs event))
    ∙ sym (append_assoc (seen_event shape pairs event) (seen_from shape events (after_pair_event shape pairs event))
    (seen_from shape more (fold (after_pair_event shape) pairs (event ∷ events))))

module _ (shape : Shape) (events : List QueueEvent) (event : QueueEvent) where
  -- the system after one event more
  pub pairs_push : pair_world_after shape (events ++ event ∷ []) ≡ after_pair_event shape (pair_world_after shape events) event
  unfolding pair_world_after
  pairs_push = fold-append (after_pair_event shape) (first_pair_world shape) events (event ∷ [])

  -- what the events are then
  pub seen_push : seen_events shape (events ++ event ∷ []) ≡ seen_events shape events ++ seen_event shape (pair_world_after shape events) event
  unfolding seen_events pair_world_after
  seen_push = seen_append shape events (event ∷ []) (first_pair_world shape)
      ∙ ap (λ list. seen_from shape events (first_pair_world shape) ++ list)
      (append-nil (seen_event shape (fold (after_pair_event shape) (first_pair_world shape) events) event))

  -- the firm system after it
  pub firm_push : firm_world_after shape (seen_events shape (events ++ event ∷ []))
      ≡ fold (after_firm_event shape) (firm_world_after shape (seen_events shape events)) (seen_event shape (pair_world_after shape events) event)
  unfolding firm_world_after
  firm_push = ap (λ list. fold (after_firm_event shape) (first_firm_world shape) list) seen_push
      ∙ fold-append (after_firm_event shape) (first_firm_world shape) (seen_events shape events) (seen_event shape (pair_world_after shape events) event)

-- what is so of a run
record IsKept (shape : Shape) (events : List QueueEvent) : Type 0 where
  firm : IsFirmRun shape (seen_events shape events)
  sees : Sees shape (pair_world_after shape events) (firm_world_after shape (seen_events shape events))
  safe : IsSafe shape (pair_world_after shape events)

-- nothing is sent
pub none_sent : (to : ℕ) → sent_to to [] ≡ []
none_sent to = elim (nat_lt to ACTORS) as (λ b. ◌≡◌ {A = List Content} (cond {A = List Content} b [] []) []) [ true ↦ refl | false ↦ refl ]

module _ (first : FirstIsPaired) (new_sound : NewIsSound) (steps : StepsAreSeenAlone) (acks : AcksTell) (both : FitsBoth) (keep : EventsKeepSound)
    (fit : EventsFit)
    (keeps : RecordsKeepReplica) (order : FirmRunsKeepOneOrder) (shape : Shape) (size : IsClusterSize shape.nodes shape.spares) where
  -- at the start nothing is to be told
  first_mail : (from to : ℕ) → [] ≡ seen_mail shape.nodes (first_pair_world shape) from to
  first_mail from to =
      elim (nat_lt from shape.nodes) as
      (λ b. [] ≡ cond b (sent_to to (untold own_primary (new_replica from shape.nodes (Some (standby_node shape.nodes from))))) []) [
        | true ↦ sym (ap (sent_to to) ((first from shape.nodes (standby_node shape.nodes from) size.counted).told own_primary) ∙ none_sent to)
        | false ↦ refl
      ]

  -- the empty run
  kept_first : IsKept shape []
  unfolding seen_events pair_world_after firm_world_after IsFirmRun
  kept_first = record {
    firm = tt;
    sees = record {
      front = refl;
      history = refl;
      lines = refl;
      replicas = λ v below. (first v shape.nodes (standby_node shape.nodes v) size.counted).alone own_primary;
      paired = λ v below. (first v shape.nodes (standby_node shape.nodes v) size.counted).paired;
      mail = first_mail;
    };
    safe = record {
      below = λ from to. All-nil (IsInternalBelow shape.nodes);
      same_nodes = λ v. refl;
      sound = λ v below. new_sound;
      firm = λ v below. All-nil (λ (entry : LogEntry). IsDecided [] entry.content);
      tells = λ from to. All-nil (TellsFirm []);
    };
  }

  -- all that holds after a run
  knows : (events : List QueueEvent) → IsKept shape events → Knows shape (pair_world_after shape events) (firm_world_after shape (seen_events shape events))
  knows events kept =
      let ordered : IsOrderedRun shape (seen_events shape events) = order shape (seen_events shape events) size kept.firm in
      record {
        sees = kept.sees;
        sound = ordered.sound;
        whole = ordered.commits;
        decided = decided_after shape (seen_events shape events);
        lawful = λ v below. subst₂ IsLawfulLog ordered.ledger.history (ordered.ledger.logs v below) (ordered.ledger.ordered.lawful v);
        streams = streams_after shape size.counted events;
        safe = kept.safe;
      }

  -- the run with an event more
  kept_more : (events : List QueueEvent) (event : QueueEvent) →
      EachMayHappen MayPairs (after_pair_event shape) (events ++ event ∷ []) (first_pair_world shape) →
      IsKept shape events → IsKept shape (events ++ event ∷ [])
  unfolding IsFirmRun firm_world_after pair_world_after
  kept_more events event longer kept =
      let pairs : PairWorld = pair_world_after shape events in
      let firm : FirmWorld = firm_world_after shape (seen_events shape events) in
      let may : MayPairs pairs event = (each_parts MayPairs (after_pair_event shape) events (event ∷ []) (first_pair_world shape) longer).1.0 in
      let good : IsGood shape pairs firm event = event_good steps acks both keep fit keeps shape size pairs firm (knows events kept) event may in
      record {
        firm = subst (IsFirmRun shape) (sym (seen_push shape events event))
            (each_append MayFirm (after_firm_event shape) (seen_events shape events) (seen_event shape pairs event)
            (first_firm_world shape) kept.firm good.seen.may);
        sees = subst₂ (Sees shape) (sym (pairs_push shape events event)) (sym (firm_push shape events event)) good.seen.after;
        safe = subst (IsSafe shape) (sym (pairs_push shape events event)) good.safe;
      }

  -- so it is of every run
  kept_after : (events : List QueueEvent) → IsPairRun shape events → IsKept shape events
  unfolding IsPairRun
  kept_after events may = holds_of_all MayPairs (after_pair_event shape) (first_pair_world shape) (IsKept shape) kept_more kept_first events may

  -- it is seen
  seen_after : (events : List QueueEvent) → IsPairRun shape events → IsSeen shape events
  seen_after events may =
      let kept = kept_after events may in
      record {
        firm = kept.firm;
        front = kept.sees.front;
        history = kept.sees.history;
        lines = kept.sees.lines;
        replicas = kept.sees.replicas;
        paired = kept.sees.paired;
        mail = kept.sees.mail;
      }

  -- and what may happen next fits
  fits_after : (events : List QueueEvent) (event : QueueEvent) → IsPairRun shape events → MayPairs (pair_world_after shape events) event →
      PairEventFits shape (pair_world_after shape events) event
  fits_after events event may next =
      event_fits steps acks both keep fit keeps shape size (pair_world_after shape events) (firm_world_after shape (seen_events shape events))
      (knows events (kept_after events may)) event next

  -- each message on its way is between the actors that its kind names
  addressed_after : (events : List QueueEvent) → IsPairRun shape events → (from to : ℕ) →
      All (IsPairAddressed shape.nodes from to) ((pair_world_after shape events).mail from to)
  addressed_after events may from to =
      let pairs : PairWorld = pair_world_after shape events in
      let known = knows events (kept_after events may) in
      all_addressed shape.nodes from to (pairs.mail from to) (known.safe.below from to) (known.streams.ways from to)
      (All-first (IsAddressed shape.nodes from to) (outward (pairs.mail from to)) (to_tell shape.nodes pairs from to)
      (subst (All (IsAddressed shape.nodes from to)) (known.sees.mail from to) (known.sound.places.messages from to)))

-- the law of runs
pub pair_runs_are_seen : FirstIsPaired → NewIsSound → StepsAreSeenAlone → AcksTell → FitsBoth → EventsKeepSound → EventsFit → RecordsKeepReplica →
    FirmRunsKeepOneOrder → PairRunsAreSeen
pair_runs_are_seen first new_sound steps acks both keep fit keeps order shape events size may =
    seen_after first new_sound steps acks both keep fit keeps order shape size events may

-- the law of inputs
pub pair_inputs_fit : FirstIsPaired → NewIsSound → StepsAreSeenAlone → AcksTell → FitsBoth → EventsKeepSound → EventsFit → RecordsKeepReplica →
    FirmRunsKeepOneOrder → PairInputsFit
pair_inputs_fit first new_sound steps acks both keep fit keeps order shape events event size may next =
    fits_after first new_sound steps acks both keep fit keeps order shape size events event may next

-- the law of messages on their way
pub pair_messages_are_addressed : FirstIsPaired → NewIsSound → StepsAreSeenAlone → AcksTell → FitsBoth → EventsKeepSound → EventsFit → RecordsKeepReplica →
    FirmRunsKeepOneOrder → PairMessagesAreAddressed
pair_messages_are_addressed first new_sound steps acks both keep fit keeps order shape events size may =
    addressed_after first new_sound steps acks both keep fit keeps order shape size events may
