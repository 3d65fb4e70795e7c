-- Every firm run, by induction over its events.
use Rattle.std.proofs.Common.{◌≡◌, ℕ, ◌<◌, ◌≤◌, true, false, List, [], ◌∷◌, ◌++◌, append_assoc, length, Some, sym, ap, ◌∙◌, subst, arith}
use Rattle.std.specs.List.{fold}
use Rattle.std.proofs.lemmas.List.{append-nil}
use Rattle.std.proofs.lemmas.List.Sums.{fold-append}
use Rattle.cl_causes.specs.Causes.{IsAskOf, TrueCauses}
use Rattle.cl_causes.specs.Held.{WasHeld}
use Rattle.cl_causes.specs.Short.{WasShort}
use Rattle.cl_causes.specs.Laws.{FirmRunsNameTrueCauses}
use Rattle.cl_ledger.specs.Laws.{FirmRunsKeepOneOrder}
use Rattle.cl_ledger.specs.Ledgers.{both_after}
use Rattle.cl_locks.specs.Grants.{first_conflict}
use Rattle.cl_order.specs.Operations.{mode_of}
use Rattle.cl_roster.specs.Roster.{IsClusterSize}
use Rattle.cl_runs.specs.Queues.{QueueEvent, deliver}
use Rattle.cl_runs.specs.World.{Shape, EachMayHappen}
use Rattle.cl_served.specs.Laws.{LedgersAreShown}
use Rattle.cl_shown.specs.Laws.{SessionHasOutstanding, FirmRunsAreWellShown, transcript_of_firm}
use Rattle.cl_shown.specs.Shown.{IsWellShown}
use Rattle.cl_system.specs.Firm.{FirmWorld, FirmEvent, happens, reorder, join, MayFirm, after_firm_event, first_firm_world, firm_world_after, IsFirmRun, IsQuietly, AreQuiet}
use Rattle.cl_system.specs.Replicas.{after_replica_event}
use Rattle.cl_told.specs.Laws.{FirmRunsAreTold}
use Rattle.cl_types.specs.declared.operations.Op.{Op}
use Rattle.cl_types.specs.declared.operations.TxnId.{TxnId}
use Rattle.cl_types.specs.Placement.{virtual_node_of}
use Rattle.cl_types.specs.Places.{Place}
use Rattle.cl_wire.specs.Message.{Content, Ask}
use Rattle.cl_causes.proofs.Events.{IsCausedWorld, event_caused, reorder_caused, caused_longer, caused_first}
use Rattle.cl_causes.proofs.Ended.{true_causes}

-- ---- one event more

-- events and then one: each of the first may happen, and the last one after them
last_may : {W E : Type 0} (May : W → E → Type 0) (next : W → E → W) (events : List E) (event : E) (state : W) →
    EachMayHappen May next (events ++ event ∷ []) state → EachMayHappen May next events state × May (fold next state events) event
last_may May next [] event state may = (tt, may.0)
last_may May next (first ∷ events) event state may = let rest = last_may May next events event (next state first) may.1 in ((may.0, rest.0), rest.1)

-- a first part of events that may happen may happen
first_may : {W E : Type 0} (May : W → E → Type 0) (next : W → E → W) (events more : List E) (state : W) → EachMayHappen May next (events ++ more) state →
    EachMayHappen May next events state
first_may May next [] more state may = tt
first_may May next (event ∷ events) more state may = (may.0, first_may May next events more (next state event) may.1)

-- memory that was short stays so in a longer run, and at later positions
short_stays : (shape : Shape) (events : List FirmEvent) (event : FirmEvent) (name : TxnId) (p q : ℕ) → p ≤ q → WasShort shape events name p →
    WasShort shape (events ++ event ∷ []) name q
short_stays shape events event name p q far h = record {
  front = h.front;
  back = h.back ++ event ∷ [];
  from = h.from;
  to = h.to;
  content = h.content;
  rest = h.rest;
  split = ap (λ list. list ++ event ∷ []) h.split ∙ append_assoc h.front (happens (deliver h.from h.to true) ∷ h.back) (event ∷ []);
  head = h.head;
  asks = h.asks;
  before = let b = h.before in omega (arith, b, far);
}

-- a lock that refused an operation did so in a longer run too
held_stays : (shape : Shape) (events : List FirmEvent) (event : FirmEvent) (name holder : TxnId) (place : Place) (op : Op) (line p q : ℕ) → p ≤ q →
    WasHeld shape events name holder place op line p → WasHeld shape (events ++ event ∷ []) name holder place op line q
held_stays shape events event name holder place op line p q far h = record {
  front = h.front;
  back = h.back ++ event ∷ [];
  from = h.from;
  v = h.v;
  number = h.number;
  rest = h.rest;
  stands = h.stands;
  split = ap (λ list. list ++ event ∷ []) h.split ∙ append_assoc h.front (happens (deliver h.from h.v false) ∷ h.back) (event ∷ []);
  head = h.head;
  read = h.read;
  refuses = h.refuses;
  before = let b = h.before in omega (arith, b, far);
}

-- the system after one event more
one_more : (shape : Shape) (events : List FirmEvent) (event : FirmEvent) →
    firm_world_after shape (events ++ event ∷ []) ≡ after_firm_event shape (firm_world_after shape events) event
unfolding firm_world_after
one_more shape events event = fold-append (after_firm_event shape) (first_firm_world shape) events (event ∷ [])

module _ (shape : Shape) (size : IsClusterSize shape.nodes shape.spares) (told : FirmRunsAreTold) (ordered : FirmRunsKeepOneOrder)
    (outstanding : SessionHasOutstanding) (well : FirmRunsAreWellShown) (served : LedgersAreShown) where
  -- what holds of the system where memory was short in these events
  abbrev HoldsWith : List FirmEvent → FirmWorld → Type 0
  HoldsWith events state = IsCausedWorld shape (WasShort shape events) (WasHeld shape events) state.world

  -- what holds after a run
  abbrev Holds : List FirmEvent → Type 0
  Holds events = HoldsWith events (firm_world_after shape events)

  -- it holds at the start
  holds_first : Holds []
  unfolding firm_world_after
  holds_first = caused_first shape (WasShort shape []) (WasHeld shape [])

  -- the run goes on by an event, and is quiet where it says so
  record GoesOn (events : List FirmEvent) (event : FirmEvent) : Type 0 where
    is_firm : IsFirmRun shape events
    is_longer : IsFirmRun shape (events ++ event ∷ [])
    may : MayFirm (firm_world_after shape events) event
    quietly : IsQuietly (firm_world_after shape events) event

  -- the last event of a run is one by which it goes on
  goes_on : (events : List FirmEvent) (event : FirmEvent) → IsFirmRun shape (events ++ event ∷ []) → AreQuiet shape (events ++ event ∷ []) → GoesOn events event
  unfolding IsFirmRun firm_world_after
  goes_on events event is quietly =
      let both = last_may MayFirm (after_firm_event shape) events event (first_firm_world shape) is in
      let calm = last_may IsQuietly (after_firm_event shape) events event (first_firm_world shape) quietly in
      record { is_firm = both.0; is_longer = is; may = both.1; quietly = calm.1 }

  -- what holds after the event holds after the longer run
  after_one : (events : List FirmEvent) (event : FirmEvent) → HoldsWith (events ++ event ∷ []) (after_firm_event shape (firm_world_after shape events) event) →
      Holds (events ++ event ∷ [])
  after_one events event so = subst (HoldsWith (events ++ event ∷ [])) (sym (one_more shape events event)) so

  -- ---- an event of the system

  module _ (events : List FirmEvent) (event : QueueEvent) (on : GoesOn events (happens event)) where
    -- the system before the event
    abbrev state : FirmWorld
    state = firm_world_after shape events

    -- the transcript after the longer run
    new_is : transcript_of_firm shape (events ++ happens event ∷ []) ≡ (after_replica_event shape state.world event).front.transcript
    unfolding after_firm_event
    new_is = ap (λ (after : FirmWorld). after.world.front.transcript) (one_more shape events (happens event))

    -- it is well shown
    well_new : IsWellShown (after_replica_event shape state.world event).front.transcript
    well_new = subst IsWellShown new_is (well shape (events ++ happens event ∷ []) size on.is_longer)

    -- memory is short in this event
    short_now : (from to : ℕ) (content : Content) (rest : List Content) (name : TxnId) → event ≡ deliver from to true →
        state.world.mail from to ≡ content ∷ rest → IsAskOf name content →
        WasShort shape (events ++ happens event ∷ []) name (length (after_replica_event shape state.world event).front.transcript)
    short_now from to content rest name delivers waits asks = record {
      front = events;
      back = [];
      from = from;
      to = to;
      content = content;
      rest = rest;
      split = ap (λ e. events ++ happens e ∷ []) delivers;
      head = waits;
      asks = asks;
      before = let same = ap length (ap (λ e. transcript_of_firm shape (events ++ happens e ∷ [])) (sym delivers) ∙ new_is) in omega (arith, same);
    }

    -- a lock refuses an operation in this event
    held_now : (from v number : ℕ) (name holder : TxnId) (table key : List ℕ) (op : Op) (line : ℕ) (rest : List Content) → event ≡ deliver from v false →
        state.world.mail from v ≡ Ask v name number table key op ∷ rest → v ≡ virtual_node_of key shape.nodes → line < length state.world.front.transcript →
        first_conflict (state.world.replicas v).part.grants name (table, key) (mode_of op) ≡ Some holder →
        WasHeld shape (events ++ happens event ∷ []) name holder (table, key) op line (length (after_replica_event shape state.world event).front.transcript)
    held_now from v number name holder table key op line rest delivers waits stands read refuses = record {
      front = events;
      back = [];
      from = from;
      v = v;
      number = number;
      rest = rest;
      stands = stands;
      split = ap (λ e. events ++ happens e ∷ []) delivers;
      head = waits;
      read = read;
      refuses = refuses;
      before = let same = ap length (ap (λ e. transcript_of_firm shape (events ++ happens e ∷ [])) (sym delivers) ∙ new_is) in omega (arith, same);
    }

    -- what holds before the event holds after it
    happens_caused : Holds events → HoldsWith (events ++ happens event ∷ []) (after_firm_event shape state (happens event))
    unfolding after_firm_event
    happens_caused so =
        let order = ordered shape events size on.is_firm in
        event_caused shape size state event on.may.0 order.sound order.commits (told shape events size on.is_firm) outstanding
        (both_after shape events).ledger order.ledger (served shape events size on.is_firm) well_new.fit_turns well_new.few
        (WasShort shape events) (WasShort shape (events ++ happens event ∷ [])) (short_stays shape events (happens event)) short_now
        (WasHeld shape events) (WasHeld shape (events ++ happens event ∷ []))
        (λ p q far name holder place op line held. held_stays shape events (happens event) name holder place op line p q far held) held_now
        (λ quietens. subst (λ e. IsQuietly state (happens e)) quietens on.quietly) so

  -- ---- all of it

  -- the same world after a longer run
  world_caused : (events : List FirmEvent) (event : FirmEvent) → Holds events → HoldsWith (events ++ event ∷ []) (firm_world_after shape events)
  world_caused events event so =
      caused_longer shape (firm_world_after shape events).world (WasShort shape events) (WasShort shape (events ++ event ∷ []))
      (λ name position short. short_stays shape events event name position position (omega arith) short)
      (WasHeld shape events) (WasHeld shape (events ++ event ∷ []))
      (λ name holder place op line position held. held_stays shape events event name holder place op line position position (omega arith) held) so

  -- so it does after any event
  holds_next : (events : List FirmEvent) (event : FirmEvent) → GoesOn events event → Holds events → Holds (events ++ event ∷ [])
  unfolding after_firm_event
  holds_next events (happens event) on so = after_one events (happens event) (happens_caused events event on so)
  holds_next events (reorder mail) on so =
      after_one events (reorder mail)
      (reorder_caused shape (firm_world_after shape events).world mail (WasShort shape (events ++ reorder mail ∷ []))
      (WasHeld shape (events ++ reorder mail ∷ [])) on.may
      (world_caused events (reorder mail) so))
  holds_next events (join txn) on so = after_one events (join txn) (world_caused events (join txn) so)

  -- and after more events
  holds_on : (more events : List FirmEvent) → Holds events → IsFirmRun shape (events ++ more) → AreQuiet shape (events ++ more) → Holds (events ++ more)
  unfolding IsFirmRun
  holds_on [] events so is quietly = subst Holds (sym (append-nil events)) so
  holds_on (event ∷ more) events so is quietly =
      let regroup : events ++ event ∷ more ≡ (events ++ event ∷ []) ++ more = sym (append_assoc events (event ∷ []) more) in
      let longer : IsFirmRun shape ((events ++ event ∷ []) ++ more) = subst (IsFirmRun shape) regroup is in
      let quiet_longer : AreQuiet shape ((events ++ event ∷ []) ++ more) = subst (AreQuiet shape) regroup quietly in
      let on : GoesOn events event =
      goes_on events event (first_may MayFirm (after_firm_event shape) (events ++ event ∷ []) more (first_firm_world shape) longer)
      (first_may IsQuietly (after_firm_event shape) (events ++ event ∷ []) more (first_firm_world shape) quiet_longer) in
      subst Holds (sym regroup) (holds_on more (events ++ event ∷ []) (holds_next events event on so) longer quiet_longer)

  -- each cause of a run is true
  run_causes : (events : List FirmEvent) → IsFirmRun shape events → AreQuiet shape events → TrueCauses (transcript_of_firm shape events) (WasShort shape events) (WasHeld shape events)
  run_causes events is quietly =
      let so : Holds events = holds_on events [] holds_first is quietly in
      true_causes (WasShort shape events) (WasHeld shape events) outstanding (transcript_of_firm shape events) (well shape events size is).few so.few so.replies

-- the law, by those of what firm runs show and serve
pub firm_runs_name_true_causes : FirmRunsAreTold → FirmRunsKeepOneOrder → SessionHasOutstanding → FirmRunsAreWellShown → LedgersAreShown →
    FirmRunsNameTrueCauses
firm_runs_name_true_causes told ordered outstanding well served shape events size is quietly =
    run_causes shape size told ordered outstanding well served events is quietly
