-- Each event is steps of the ledger of the firm system.
use Rattle.std.proofs.Common.{◌≡◌, ◌≢◌, ℕ, ◌+◌, eqb, Bool, true, false, cond, inl, inr, List, [], ◌∷◌, ◌++◌, Option, Some, None, All, refl, sym, ◌∙◌, ap, subst}
use Rattle.std.specs.List.{list_any}
use Rattle.std.proofs.lemmas.Bool.{eqb-false, or_left, or_right}
use Rattle.std.proofs.lemmas.List.Elements.{All-head}
use Rattle.std.proofs.lemmas.List.Folds.{list_any-append}
use Rattle.cl_types.specs.declared.operations.TxnId.{TxnId}
use Rattle.cl_types.specs.Transactions.{same_txn}
use Rattle.cl_types.proofs.PlacementLaws.{virtual_node_of-below}
use Rattle.cl_types.proofs.Transactions.{same_txn-itself}
use Rattle.cl_control.specs.State.{Entry}
use Rattle.cl_log.specs.LogEntry.{LogEntry}
use Rattle.cl_log.specs.Open.{is_among as is_member}
use Rattle.cl_log.specs.Settled.{settled}
use Rattle.cl_front.specs.Front.{FrontState, delivered_front}
use Rattle.cl_lone.specs.Lone.{lone_step}
use Rattle.cl_node.specs.Addressing.{home_in}
use Rattle.cl_order.specs.Ledger.{Ledger}
use Rattle.cl_order.specs.Steps.{Step, join as joins, after_steps, AreEnabled, MayJoin}
use Rattle.cl_order.proofs.LawLemmas.{new_ordered, steps_keep_order}
use Rattle.cl_order.proofs.Readings.{spared_stay_whole}
use Rattle.cl_part.proofs.Soundness.{new_is_sound}
use Rattle.cl_roster.specs.Roster.{IsClusterSize}
use Rattle.cl_runs.specs.Queues.{deliver, take_line, quieten}
use Rattle.cl_runs.specs.World.{Shape}
use Rattle.cl_steps.specs.declared.actors.TheConstants.{FRONT}
use Rattle.cl_steps.specs.declared.steps.Outgoing.{Outgoing}
use Rattle.cl_wire.specs.Message.{Content}
use Rattle.cl_system.specs.Firm.{FirmWorld, happens, reorder, join, TellsFirm, AreReordered, with_order, after_firm_event}
use Rattle.cl_system.specs.Replicas.{ReplicaWorld, Mail, nothing_noted, own_primary, with_mail, with_way, front_acts, replica_acts, after_message, after_first}
use Rattle.cl_system.specs.Replicas.{after_replica_event, MessageFits}
use Rattle.cl_system.specs.Roles.{IsAddressed}
use Rattle.cl_system.proofs.Places.{receiver_below, fits_replica}
use Rattle.cl_system.proofs.Reordering.{reordered_any}
use Rattle.cl_exchange.specs.Laws.{IsSoundWorld, EventsFit}
use Rattle.cl_commit.specs.Life.{CommitsWhole, IsToCome, is_begin_of}
use Rattle.cl_ledger.specs.Laws.{LedgerAtFirst, EventsAreSteps, LogsSettle}
use Rattle.cl_ledger.specs.Ledgers.{IsLedgerOf, first_steps, event_steps, firm_steps, message_steps, place_on}
use Rattle.cl_ledger.proofs.Fronts.{BeginsNew, line_begins, message_begins, front_to_come}
use Rattle.cl_ledger.proofs.Messages.{message_comes}
use Rattle.cl_ledger.proofs.Standings.{open_outside}
use Rattle.cl_ledger.proofs.Worlds.{way_before, member_of_both, member_stays, only_member}

-- at the start nothing has happened
pub ledger_at_first : LedgerAtFirst
ledger_at_first shape size = record {
  on = λ place. refl;
  logs = λ v below. refl;
  sound = λ v below. new_is_sound;
  history = refl;
  decided = λ txn firm. absurd (let e : false ≡ true = firm in cc);
  ordered = new_ordered (place_on shape.nodes);
  whole = λ txn entry there opened. absurd (let e : ◌≡◌ {A = Option Entry} None (Some entry) = opened in cc);
  places = λ txn entry there opened. absurd (let e : ◌≡◌ {A = Option Entry} None (Some entry) = opened in cc);
  unborn = λ txn there to_come. refl;
  waiting = λ txn decided. absurd (let e : false ≡ true = decided in cc);
}

-- the log of each virtual node settles to the map of the history
pub logs_settle : LogsSettle
logs_settle shape state ledger place size is =
    let v : ℕ = place_on shape.nodes place in
    let log : ledger.logs (ledger.on place) ≡ (state.world.replicas v).part.log =
    ap ledger.logs (is.on place) ∙ is.logs v (virtual_node_of-below place.1 shape.nodes size.counted) in
    ap (λ (entries : List LogEntry). settled entries state.firm place) (sym log)
    ∙ ap (λ history. settled (ledger.logs (ledger.on place)) history place) (sym is.history)
    ∙ is.ordered.settles place

-- ---- events

-- steps are enabled, and the ledger after them is that of this system
record Becomes (shape : Shape) (state : FirmWorld) (ledger : Ledger) (steps : List Step) : Type 0 where
  enabled : AreEnabled ledger steps
  after : IsLedgerOf shape state (after_steps ledger steps)

module _ (shape : Shape) (size : IsClusterSize shape.nodes shape.spares) (state : FirmWorld) (ledger : Ledger) (is : IsLedgerOf shape state ledger) where
  -- the system with this world
  abbrev with_world : ReplicaWorld → FirmWorld
  with_world world = record state { world = world }

  -- a step of the front
  front_becomes : (mail : Mail) (front : FrontState) (sends : List Outgoing) (lines : ℕ) → BeginsNew state.world.front.sessions front.sessions sends →
      ((p : Content → Bool) (h : ℕ) → list_any p (mail FRONT h) ≡ true → list_any p (state.world.mail FRONT h) ≡ true) →
      Becomes shape (with_world (record state.world { front = front; mail = with_mail mail FRONT sends; lines = lines })) ledger []
  front_becomes mail front sends lines begins before = record {
    enabled = tt;
    after = record {
      on = is.on;
      logs = is.logs;
      sound = is.sound;
      history = is.history;
      decided = is.decided;
      ordered = is.ordered;
      whole = is.whole;
      places = is.places;
      unborn = λ name there to_come. is.unborn name there (front_to_come shape.nodes state.world mail front sends lines begins before name there to_come);
      waiting = is.waiting;
    };
  }

  -- a message comes to the front, or to a replica
  message_becomes : IsSoundWorld shape state.world → CommitsWhole shape state.world → (from to : ℕ) (content : Content) (rest : List Content) (mark : Bool) →
      state.world.mail from to ≡ content ∷ rest → MessageFits shape state.world from to content → TellsFirm state.firm content →
      Becomes shape (with_world (after_message shape (record state.world { mail = with_way state.world.mail from to rest }) from to content mark)) ledger
      (cond (eqb to FRONT) [] (message_steps to (state.world.replicas to) content mark))
  message_becomes sound commits from to content rest mark here fits told =
      let popped : ReplicaWorld = record state.world { mail = with_way state.world.mail from to rest } in
      let addressed : IsAddressed shape.nodes from to content =
      All-head (IsAddressed shape.nodes from to) content rest (subst (All (IsAddressed shape.nodes from to)) here (sound.places.messages from to)) in
      elim (eqb to FRONT) as (λ b. (eqb to FRONT ≡ b) →
      Becomes shape (with_world (cond b (front_acts popped (delivered_front (nothing_noted shape) state.world.front from content mark))
      (replica_acts popped to (lone_step own_primary (state.world.replicas to) from content mark)))) ledger
      (cond b [] (message_steps to (state.world.replicas to) content mark))) [
        | true ↦ λ at_front. front_becomes popped.mail _ _ state.world.lines (message_begins (nothing_noted shape) state.world.front sound.sessions content)
            (λ p h any. way_before state.world.mail from to content rest here p FRONT h any)
        | false ↦ λ elsewhere.
            let node : to ≢ FRONT = eqb-false to FRONT elsewhere in
            let goes = message_comes shape size state ledger is commits from to rest node
            (receiver_below shape.nodes from to content size.counted node addressed)
            content mark here addressed (fits_replica shape state.world from to content elsewhere fits) told in
            record { enabled = goes.enabled; after = goes.after }
      ] refl

  first_becomes : IsSoundWorld shape state.world → CommitsWhole shape state.world → (from to : ℕ) (mark : Bool) (contents : List Content) →
      state.world.mail from to ≡ contents →
      ((content : Content) (rest : List Content) → state.world.mail from to ≡ content ∷ rest → MessageFits shape state.world from to content) →
      ((content : Content) (rest : List Content) → state.world.mail from to ≡ content ∷ rest → TellsFirm state.firm content) →
      Becomes shape (with_world (after_first shape state.world from to mark contents)) ledger (first_steps state.world to mark contents)
  first_becomes sound commits from to mark [] here fits told = record { enabled = tt; after = is }
  first_becomes sound commits from to mark (content ∷ rest) here fits told =
      message_becomes sound commits from to content rest mark here (fits content rest here) (told content rest here)

  -- ---- another order of the messages

  -- whoever is to come was to come before
  reordered_to_come : (mail : Mail) → AreReordered state.world.mail mail → (name : TxnId) → IsToCome shape.nodes (with_order state.world mail) name →
      IsToCome shape.nodes state.world name
  reordered_to_come mail are name (inl later) = inl later
  reordered_to_come mail are name (inr coming) =
      inr (sym (reordered_any state.world.mail mail are (is_begin_of name) FRONT (home_in shape.nodes name)) ∙ coming)

  reorder_becomes : (mail : Mail) → AreReordered state.world.mail mail → Becomes shape (with_world (with_order state.world mail)) ledger []
  reorder_becomes mail are = record {
    enabled = tt;
    after = record {
      on = is.on;
      logs = is.logs;
      sound = is.sound;
      history = is.history;
      decided = is.decided;
      ordered = is.ordered;
      whole = is.whole;
      places = is.places;
      unborn = λ name there to_come. is.unborn name there (reordered_to_come mail are name to_come);
      waiting = is.waiting;
    };
  }

  -- ---- a transaction becomes firm

  module _ (commits : CommitsWhole shape state.world) (txn : TxnId) (decided : is_member txn state.world.history ≡ true)
      (outside : is_member txn state.firm ≡ false) where
    -- it may join the history
    may_join : MayJoin ledger txn
    may_join = record { outside = ap (is_member txn) is.history ∙ outside; whole = is.waiting txn decided outside }

    -- what is firm then was decided
    joined_decided : (name : TxnId) → is_member name (state.firm ++ txn ∷ []) ≡ true → is_member name state.world.history ≡ true
    joined_decided name member = elim (member_of_both state.firm (txn ∷ []) name member) [
      | inl old ↦ is.decided name old
      | inr new ↦ ap (λ t. is_member t state.world.history) (only_member txn name new) ∙ decided
    ]

    -- whoever is not decided is another
    undecided_other : (name : TxnId) → is_member name state.world.history ≡ false → name ≢ txn
    undecided_other name undecided same = let e : true ≡ false = sym decided ∙ ap (λ t. is_member t state.world.history) (sym same) ∙ undecided in cc

    -- so is whoever still waits
    waiting_other : (name : TxnId) → is_member name (state.firm ++ txn ∷ []) ≡ false → name ≢ txn
    waiting_other name waits same =
        let here : is_member txn (state.firm ++ txn ∷ []) ≡ true = list_any-append (same_txn txn) state.firm (txn ∷ [])
        ∙ or_right _ _ (or_left _ _ (same_txn-itself txn)) in
        let e : true ≡ false = sym here ∙ ap (λ t. is_member t (state.firm ++ txn ∷ [])) (sym same) ∙ waits in cc

    -- and was not firm before
    waited_before : (name : TxnId) → is_member name (state.firm ++ txn ∷ []) ≡ false → is_member name state.firm ≡ false
    waited_before name waits = by_member (is_member name state.firm) refl
      where
        by_member : (b : Bool) → is_member name state.firm ≡ b → is_member name state.firm ≡ false
        by_member true member = absurd (let e : true ≡ false = sym (member_stays state.firm (txn ∷ []) name member) ∙ waits in cc)
        by_member false other = other

    join_becomes : Becomes shape (record state { firm = state.firm ++ txn ∷ [] }) ledger (joins txn ∷ [])
    join_becomes =
        let stays = steps_keep_order ledger (joins txn) is.ordered may_join in
        record {
          enabled = (may_join, tt);
          after = record {
            on = is.on;
            logs = is.logs;
            sound = is.sound;
            history = ap (λ history. history ++ txn ∷ []) is.history;
            decided = joined_decided;
            ordered = stays.ordered;
            whole = λ name entry there opened v below among.
                stays.whole name v (undecided_other name (open_outside shape state.world name entry (commits.lives name there) opened))
                (is.whole name entry there opened v below among);
            places = is.places;
            unborn = is.unborn;
            waiting = λ name member waits.
                spared_stay_whole ledger (joins txn) name is.ordered may_join (λ v. waiting_other name waits)
                (is.waiting name member (waited_before name waits));
          };
        }

-- each event that may happen is steps of the ledger
pub events_are_steps : EventsFit → EventsAreSteps
unfolding after_firm_event firm_steps after_replica_event event_steps
events_are_steps fit shape state ledger (happens (deliver from to mark)) size sound commits is may =
    let fits = fit shape state.world (deliver from to mark) size sound may.0 in
    let becomes = first_becomes shape size state ledger is sound commits from to mark (state.world.mail from to) refl fits may.1 in
    record { enabled = becomes.enabled; after = becomes.after }
events_are_steps fit shape state ledger (happens (take_line number text said)) size sound commits is may =
    let begins = line_begins (nothing_noted shape) state.world.front sound.sessions number text said in
    let becomes = front_becomes shape size state ledger is state.world.mail _ _ (state.world.lines + 1) begins (λ p h any. any) in
    record { enabled = becomes.enabled; after = becomes.after }
events_are_steps fit shape state ledger (happens quieten) size sound commits is may = record {
  enabled = tt;
  after = record {
    on = is.on;
    logs = is.logs;
    sound = is.sound;
    history = is.history;
    decided = is.decided;
    ordered = is.ordered;
    whole = is.whole;
    places = is.places;
    unborn = is.unborn;
    waiting = is.waiting;
  };
}
events_are_steps fit shape state ledger (happens other) size sound commits is may = record { enabled = tt; after = is }
events_are_steps fit shape state ledger (reorder mail) size sound commits is may =
    let becomes = reorder_becomes shape size state ledger is mail may in
    record { enabled = becomes.enabled; after = becomes.after }
events_are_steps fit shape state ledger (join txn) size sound commits is may =
    let becomes = join_becomes shape size state ledger is commits txn may.0 may.1 in
    record { enabled = becomes.enabled; after = becomes.after }
