-- Each firm transaction is a decision of a standby.
use Rattle.std.proofs.Common.{◌≡◌, ◌≢◌, ℕ, ◌<◌, ◌≤◌, eqb, Bool, true, false, inl, inr, List, [], ◌∷◌, ◌++◌, append_assoc, fold, All, Option, Some, None, refl, sym, ◌∙◌, ap, subst, arith}
use Rattle.std.proofs.lemmas.Bool.{eqb-true, eqb-false, cond_both}
use Rattle.std.proofs.lemmas.List.{append-nil}
use Rattle.std.proofs.lemmas.List.Elements.{All-head}
use Rattle.std.proofs.lemmas.List.Sums.{fold-append}
use Rattle.cl_exchange.specs.Laws.{IsSoundWorld}
use Rattle.cl_front.specs.Front.{delivered_front}
use Rattle.cl_ledger.specs.Laws.{IsOrderedRun, FirmRunsKeepOneOrder}
use Rattle.cl_log.specs.declared.records.LogRec.{LogRec}
use Rattle.cl_log.specs.declared.records.LogRec.TheVariants as records
use Rattle.cl_log.specs.Open.{is_among}
use Rattle.cl_roster.specs.Roster.{IsClusterSize}
use Rattle.cl_runs.specs.Queues.{QueueEvent, deliver, take_line, quieten}
use Rattle.cl_runs.specs.World.{Shape, EachMayHappen, with_firm}
use Rattle.cl_steps.specs.declared.actors.TheConstants.{FRONT}
use Rattle.cl_system.proofs.Places.{receiver_below}
use Rattle.cl_system.specs.Firm.{FirmWorld, after_firm_event, first_firm_world, firm_world_after}
use Rattle.cl_system.specs.Replicas.{nothing_noted, own_primary, with_way}
use Rattle.cl_system.specs.Roles.{IsAddressed}
use Rattle.cl_types.specs.declared.operations.TxnId.{TxnId}
use Rattle.cl_vnode.specs.Replica.{ReplicaState, safe_number}
use Rattle.cl_vnode.specs.Standby.{firm_of, with_record, standby_stepped}
use Rattle.cl_vnode.specs.Step.{Stepped, started, with_modes, entry_told, entries_between, all_told, stepped}
use Rattle.cl_repair.specs.Modes.{after_acked}
use Rattle.cl_wire.specs.Message.{Content, Log, LogAck}
use Rattle.cl_seen.specs.Laws.{IsSeen, PairRunsAreSeen}
use Rattle.cl_pairs.specs.Pairs.{PairWorld, front_acts, standby_acts, logged_at, replica_acts, after_message, after_first, after_pair_event, first_pair_world, pair_world_after, MayPairs, IsPairRun}
use Rattle.cl_seen.specs.Seen.{outward, to_tell, seen_delivery, seen_event, seen_from, seen_events}
use Rattle.cl_held.proofs.Decisions.{decision_new, decision_parts, decided_after}
use Rattle.cl_held.proofs.Runs.{each_parts, holds_of_all}

-- each firm transaction is a decision of a standby, and a virtual node that there is not has an empty log
pub record AreMembers (shape : Shape) (pairs : PairWorld) : Type 0 where
  pub held : (txn : TxnId) → is_among txn pairs.history ≡ true → (v : ℕ) × (is_among txn (pairs.standbys v).decisions ≡ true)
  pub beyond : (v : ℕ) → shape.nodes ≤ v → (pairs.primaries v).part.log ≡ []

-- an acknowledgement leaves an empty log
ack_empty : (state : ReplicaState) (from v number : ℕ) (mark : Bool) → state.part.log ≡ [] → (stepped own_primary state from (LogAck v number) mark).state.part.log ≡ []
unfolding all_told
ack_empty state from v number mark empty =
    let done : Stepped = with_modes (started state) (after_acked state.modes number) in
    ap (λ log. (fold (entry_told own_primary) done (entries_between (safe_number state) (safe_number done.state) log)).state.part.log) empty ∙ empty

-- ---- a log record comes to a standby

module _ (shape : Shape) (pairs : PairWorld) (are : AreMembers shape pairs) (from to v number : ℕ) (content : LogRec) (rest : List Content) where
  -- the standbys once one has taken it
  abbrev taken : ℕ → ReplicaState
  taken = (standby_acts shape.nodes (record pairs { mail = with_way pairs.mail from to rest }) v (standby_stepped (pairs.standbys v) from (Log v number content))).standbys

  -- who was decided at a standby is so still
  taken_stays : (txn : TxnId) → (w : ℕ) × (is_among txn (pairs.standbys w).decisions ≡ true) → (w : ℕ) × (is_among txn (taken w).decisions ≡ true)
  taken_stays txn old = (
    old.0,
    cond_both (eqb old.0 v) (with_record (pairs.standbys v) content) (pairs.standbys old.0) (λ (one : ReplicaState). is_among txn one.decisions ≡ true)
        (λ here. decided_after (pairs.standbys v).decisions txn content (subst (λ n. is_among txn (pairs.standbys n).decisions ≡ true) (eqb-true old.0 v here) old.1))
        (λ _. old.1),
  )

  -- who becomes firm is decided there
  taken_new : (txn : TxnId) → content ≡ records.Decide txn → is_among txn (taken v).decisions ≡ true
  taken_new txn is =
      cond_both (eqb v v) (with_record (pairs.standbys v) content) (pairs.standbys v) (λ (one : ReplicaState). is_among txn one.decisions ≡ true)
      (λ _. subst (λ (c : LogRec). is_among txn (with_record (pairs.standbys v) c).decisions ≡ true) (sym is) (decision_new (pairs.standbys v).decisions txn))
      (λ other. absurd (eqb-false v v other refl))

  -- so it is of each firm one
  taken_held : (one : LogRec) → content ≡ one → (txn : TxnId) → is_among txn (with_firm pairs.history (firm_of one)) ≡ true → (w : ℕ) × (is_among txn (taken w).decisions ≡ true)
  taken_held (records.Decide other) is txn member = elim (decision_parts pairs.history txn other member) [
    | inl old ↦ taken_stays txn (are.held txn old)
    | inr same ↦ (v, subst (λ t. is_among t (taken v).decisions ≡ true) (sym same) (taken_new other is))
  ]
  taken_held one is txn member = taken_stays txn (are.held txn member)

  -- a log record has come
  log_members : (mark : Bool) → AreMembers shape (after_message shape (record pairs { mail = with_way pairs.mail from to rest }) from to (Log v number content) mark)
  log_members mark =
      let left : PairWorld = record pairs { mail = with_way pairs.mail from to rest } in
      cond_both (eqb to FRONT) (front_acts left (delivered_front (nothing_noted shape) left.front from (Log v number content) mark))
      (standby_acts shape.nodes left v (standby_stepped (left.standbys v) from (Log v number content))) (AreMembers shape)
      (λ _. record { held = are.held; beyond = are.beyond })
      (λ _. record { held = taken_held content refl; beyond = are.beyond })

-- ---- another message comes

module _ (shape : Shape) (size : IsClusterSize shape.nodes shape.spares) (pairs : PairWorld) (are : AreMembers shape pairs) (firm : FirmWorld) (sound : IsSoundWorld shape firm.world)
    (from to : ℕ) (seen : firm.world.mail from to ≡ outward (pairs.mail from to) ++ to_tell shape.nodes pairs from to) (rest : List Content) where
  -- what is not between a primary and its standby comes to a virtual node that there is
  outward_below : (content : Content) → pairs.mail from to ≡ content ∷ rest → outward (content ∷ rest) ≡ content ∷ outward rest → to ≢ FRONT → to < shape.nodes
  outward_below content here is node =
      let others : List Content = outward rest ++ to_tell shape.nodes pairs from to in
      let all : firm.world.mail from to ≡ content ∷ others =
      seen ∙ ap (λ queue. outward queue ++ to_tell shape.nodes pairs from to) here ∙ ap (λ queue. queue ++ to_tell shape.nodes pairs from to) is in
      receiver_below shape.nodes from to content size.counted node
      (All-head (IsAddressed shape.nodes from to) content others (subst (All (IsAddressed shape.nodes from to)) all (sound.places.messages from to)))

  -- a virtual node that there is not stays empty
  stays_empty : (content : Content) → pairs.mail from to ≡ content ∷ rest → logged_at content ≡ None → to ≢ FRONT → (mark : Bool) → shape.nodes ≤ to → (pairs.primaries to).part.log ≡ [] →
      (stepped own_primary (pairs.primaries to) from content mark).state.part.log ≡ []
  stays_empty (Log v number entry) here plain node mark over empty = absurd (let e : ◌≡◌ {A = Option ℕ} (Some v) None = plain in cc)
  stays_empty (LogAck v number) here plain node mark over empty = ack_empty (pairs.primaries to) from v number mark empty
  stays_empty content here plain node mark over empty =
      let below : to < shape.nodes = outward_below content here refl node in
      absurd (omega (arith, below, over))

  -- a message that is no log record has come
  plain_members : (content : Content) (mark : Bool) → pairs.mail from to ≡ content ∷ rest → logged_at content ≡ None →
      (after_message shape (record pairs { mail = with_way pairs.mail from to rest }) from to content mark).history ≡ pairs.history →
      AreMembers shape (after_message shape (record pairs { mail = with_way pairs.mail from to rest }) from to content mark)
  plain_members content mark here plain =
      let left : PairWorld = record pairs { mail = with_way pairs.mail from to rest } in
      let next : Stepped = stepped own_primary (pairs.primaries to) from content mark in
      cond_both (eqb to FRONT) (front_acts left (delivered_front (nothing_noted shape) left.front from content mark))
      (replica_acts shape left from to content mark (logged_at content)) (λ (world : PairWorld). world.history ≡ pairs.history → AreMembers shape world)
      (λ _ same. record { held = are.held; beyond = are.beyond })
      (λ node.
      subst (λ (o : Option ℕ). (replica_acts shape left from to content mark o).history ≡ pairs.history → AreMembers shape (replica_acts shape left from to content mark o)) (sym plain)
      (λ same. record {
        held = λ txn member. are.held txn (ap (is_among txn) (sym same) ∙ member);
        beyond = λ v over.
            cond_both (eqb v to) next.state (pairs.primaries v) (λ (one : ReplicaState). one.part.log ≡ [])
            (λ own. let same_node : v ≡ to = eqb-true v to own in
            stays_empty content here plain (eqb-false to FRONT node) mark (subst (λ n. shape.nodes ≤ n) same_node over)
            (subst (λ n. (pairs.primaries n).part.log ≡ []) same_node (are.beyond v over)))
            (λ _. are.beyond v over);
      }))

-- ---- an event

module _ (shape : Shape) (size : IsClusterSize shape.nodes shape.spares) (pairs : PairWorld) (are : AreMembers shape pairs) (firm : FirmWorld) (sound : IsSoundWorld shape firm.world)
    (history : pairs.history ≡ firm.firm)
    (seen : (from to : ℕ) → firm.world.mail from to ≡ outward (pairs.mail from to) ++ to_tell shape.nodes pairs from to) where
  -- the first message on its way comes
  queue_members : (from to : ℕ) (mark : Bool) (after : PairWorld) (queue : List Content) → pairs.mail from to ≡ queue →
      (after_first shape pairs from to mark queue).history ≡ (fold (after_firm_event shape) firm (seen_delivery shape pairs after (deliver from to mark) queue)).firm →
      AreMembers shape (after_first shape pairs from to mark queue)
  unfolding after_firm_event
  queue_members from to mark after [] here now = are
  queue_members from to mark after (Log v number entry ∷ rest) here now = log_members shape pairs are from to v number entry rest mark
  queue_members from to mark after (content ∷ rest) here now =
      plain_members shape size pairs are firm sound from to (seen from to) rest content mark here refl (now ∙ sym history)

  -- any event
  event_members : (event : QueueEvent) →
      (after_pair_event shape pairs event).history ≡ (fold (after_firm_event shape) firm (seen_event shape pairs event)).firm → AreMembers shape (after_pair_event shape pairs event)
  unfolding after_pair_event seen_event
  event_members (deliver from to mark) now =
      queue_members from to mark (after_first shape pairs from to mark (pairs.mail from to)) (pairs.mail from to) refl now
  event_members (take_line number text said) now = record { held = are.held; beyond = are.beyond }
  event_members quieten now = record { held = are.held; beyond = are.beyond }
  event_members other now = are

-- ---- runs

-- what two lists of events are
seen_append : (shape : Shape) (events more : List QueueEvent) (pairs : PairWorld) →
    seen_from shape (events ++ more) pairs ≡ seen_from shape events pairs ++ seen_from shape more (fold (after_pair_event shape) pairs events)
seen_append shape [] more pairs = refl
seen_append shape (event ∷ events) more pairs =
    ap (λ list. seen_event shape pairs event ++ list) (seen_append shape events more (after_pair_event shape pairs event))
    ∙ sym (append_assoc (seen_event shape pairs event) (seen_from shape events (after_pair_event shape pairs event))
    (seen_from shape more (fold (after_pair_event shape) pairs (event ∷ events))))

module _ (shape : Shape) (events : List QueueEvent) (event : QueueEvent) where
  -- the system after one event more
  pairs_push : pair_world_after shape (events ++ event ∷ []) ≡ after_pair_event shape (pair_world_after shape events) event
  unfolding pair_world_after
  pairs_push = fold-append (after_pair_event shape) (first_pair_world shape) events (event ∷ [])

  -- what the events are then
  seen_push : seen_events shape (events ++ event ∷ []) ≡ seen_events shape events ++ seen_event shape (pair_world_after shape events) event
  unfolding seen_events pair_world_after
  seen_push = seen_append shape events (event ∷ []) (first_pair_world shape)
      ∙ ap (λ list. seen_from shape events (first_pair_world shape) ++ list) (append-nil (seen_event shape (fold (after_pair_event shape) (first_pair_world shape) events) event))

  -- the firm system after it
  firm_push : firm_world_after shape (seen_events shape (events ++ event ∷ []))
      ≡ fold (after_firm_event shape) (firm_world_after shape (seen_events shape events)) (seen_event shape (pair_world_after shape events) event)
  unfolding firm_world_after
  firm_push = ap (λ list. fold (after_firm_event shape) (first_firm_world shape) list) seen_push
      ∙ fold-append (after_firm_event shape) (first_firm_world shape) (seen_events shape events) (seen_event shape (pair_world_after shape events) event)

module _ (order : FirmRunsKeepOneOrder) (seen_so : PairRunsAreSeen) (shape : Shape) (size : IsClusterSize shape.nodes shape.spares) where
  -- the run with an event more
  members_more : (events : List QueueEvent) (event : QueueEvent) → EachMayHappen MayPairs (after_pair_event shape) (events ++ event ∷ []) (first_pair_world shape) →
      AreMembers shape (pair_world_after shape events) → AreMembers shape (pair_world_after shape (events ++ event ∷ []))
  unfolding IsPairRun
  members_more events event longer are =
      let parts = each_parts MayPairs (after_pair_event shape) events (event ∷ []) (first_pair_world shape) longer in
      let seen : IsSeen shape events = seen_so shape events size parts.0 in
      let later : IsSeen shape (events ++ event ∷ []) = seen_so shape (events ++ event ∷ []) size longer in
      let ordered : IsOrderedRun shape (seen_events shape events) = order shape (seen_events shape events) size seen.firm in
      subst (AreMembers shape) (sym (pairs_push shape events event))
      (event_members shape size (pair_world_after shape events) are (firm_world_after shape (seen_events shape events)) ordered.sound seen.history seen.mail event
      (ap (λ (pairs : PairWorld). pairs.history) (sym (pairs_push shape events event)) ∙ later.history ∙ ap (λ (state : FirmWorld). state.firm) (firm_push shape events event)))

  -- after any run
  pub members_after : (events : List QueueEvent) → IsPairRun shape events → AreMembers shape (pair_world_after shape events)
  unfolding IsPairRun pair_world_after
  members_after events run =
      holds_of_all MayPairs (after_pair_event shape) (first_pair_world shape) (λ events. AreMembers shape (pair_world_after shape events)) members_more
      (record { held = λ txn member. absurd (let e : false ≡ true = member in cc); beyond = λ v over. refl }) events run
