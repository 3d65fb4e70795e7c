-- In the firm system each Decide in a log is of a transaction that was decided.
use Rattle.std.proofs.Common.{◌≡◌, ℕ, eqb, Bool, true, false, ◌&&◌, List, [], ◌∷◌, ◌++◌, fold, All, sym, ◌∙◌, subst}
use Rattle.std.proofs.lemmas.Bool.{or_left, or_right, cond_both}
use Rattle.std.proofs.lemmas.List.Elements.{All-nil, All-cons, All-push, All-append, All-weaker}
use Rattle.std.proofs.lemmas.List.Folds.{list_any-append}
use Rattle.cl_control.specs.declared.entry.Told.{Told}
use Rattle.cl_control.specs.Calls.{after_command, command_acts, counts_vote, is_last_vote, after_vote}
use Rattle.cl_front.specs.Front.{delivered_front}
use Rattle.cl_log.specs.declared.records.LogRec.{LogRec}
use Rattle.cl_log.specs.declared.records.LogRec.TheVariants as records
use Rattle.cl_log.specs.LogEntry.{LogEntry}
use Rattle.cl_log.specs.Open.{is_among, is_open}
use Rattle.cl_lone.specs.Lone.{controlled, committed, command_of, lone_step}
use Rattle.cl_paired.proofs.Appending.{IsPlainGrown, grown-op, grown-finish}
use Rattle.cl_paired.specs.Paired.{told_of, tolds_of}
use Rattle.cl_part.specs.Calls.{after_op, after_prepare, after_decide}
use Rattle.cl_part.specs.State.{State, after_record}
use Rattle.cl_runs.specs.Queues.{QueueEvent, deliver, take_line}
use Rattle.cl_runs.specs.World.{Shape, with_one_firm, with_firm}
use Rattle.cl_steps.specs.declared.actors.TheConstants.{FRONT}
use Rattle.cl_system.specs.Firm.{FirmWorld, FirmEvent, happens, reorder, join, after_firm_event, first_firm_world, firm_world_after}
use Rattle.cl_system.specs.Replicas.{ReplicaWorld, nothing_noted, own_primary, with_way, front_acts, replica_acts, after_message, after_first}
use Rattle.cl_system.specs.Replicas.{after_replica_event}
use Rattle.cl_types.proofs.Transactions.{same_txn-itself}
use Rattle.cl_types.specs.declared.operations.Op.{Op}
use Rattle.cl_types.specs.declared.operations.TxnId.{TxnId}
use Rattle.cl_types.specs.Places.{Place}
use Rattle.cl_types.specs.Transactions.{same_txn}
use Rattle.cl_vnode.specs.Inputs.{has_decide}
use Rattle.cl_vnode.specs.Replica.{ReplicaState}
use Rattle.cl_vnode.specs.Step.{Stepped, started, with_part, after_finish, asked, prepared, finished}
use Rattle.cl_wire.specs.Message.{Content, Command, Answer, Vote, Ask, Prepare, Finish, Decision}
use Rattle.cl_seen.proofs.Beside.{IsDecided}

-- ---- histories that grow

-- who is a member stays one
pub stays_member : (history : List TxnId) (txn : TxnId) (firm : List TxnId) → is_among txn history ≡ true → is_among txn (with_firm history firm) ≡ true
stays_member history txn [] is = is
stays_member history txn (other ∷ firm) is =
    stays_member (with_one_firm history other) txn firm
    (cond_both (is_among other history) history (history ++ other ∷ []) (λ list. is_among txn list ≡ true) (λ _. is)
    (λ _. list_any-append (same_txn txn) history (other ∷ []) ∙ or_left (is_among txn history) (is_among txn (other ∷ [])) is))

-- who becomes firm is one
pub becomes_member : (history : List TxnId) (txn : TxnId) → is_among txn (with_firm history (txn ∷ [])) ≡ true
becomes_member history txn =
    cond_both (is_among txn history) history (history ++ txn ∷ []) (λ list. is_among txn list ≡ true) (λ is. is)
    (λ _. list_any-append (same_txn txn) history (txn ∷ [])
    ∙ or_right (is_among txn history) (is_among txn (txn ∷ [])) (or_left (same_txn txn txn) false (same_txn-itself txn)))

-- a Decide of a member stays one
decided_stays : (history firm : List TxnId) (content : LogRec) → IsDecided history content → IsDecided (with_firm history firm) content
decided_stays history firm (records.Decide txn) is = stays_member history txn firm is
decided_stays history firm content is = tt

-- each Decide in the log is of one of these
abbrev pub AreDecided : List TxnId → List LogEntry → Type 0
AreDecided history log = All (λ entry. IsDecided history entry.content) log

-- so they stay
pub log_stays : (history firm : List TxnId) (log : List LogEntry) → AreDecided history log → AreDecided (with_firm history firm) log
log_stays history firm log are =
    All-weaker (λ entry. IsDecided history entry.content) (λ entry. IsDecided (with_firm history firm) entry.content)
    (λ entry is. decided_stays history firm entry.content is) log are

-- ---- a step

-- a record without a Decide, and those behind it
none_told : (history : List TxnId) (number : ℕ) (content : LogRec) (tolds : List Told) → told_of number content ++ tolds ≡ [] →
    IsDecided history content × (tolds ≡ [])
none_told history number (records.Decide txn) tolds none = absurd (cc)
none_told history number content tolds none = (tt, none)

-- entries without a Decide
none_decided : (history : List TxnId) (entries : List LogEntry) → tolds_of entries ≡ [] → AreDecided history entries
none_decided history [] none = All-nil (λ (entry : LogEntry). IsDecided history entry.content)
none_decided history (entry ∷ entries) none =
    let parts = none_told history entry.number entry.content (tolds_of entries) none in
    All-cons (λ (e : LogEntry). IsDecided history e.content) entry entries parts.0 (none_decided history entries parts.1)

-- more without a Decide
grown_decided : (history : List TxnId) (before after : State) → IsPlainGrown before after → AreDecided history before.log → AreDecided history after.log
grown_decided history before after grown are =
    subst (AreDecided history) (sym grown.grown.log)
    (All-append (λ (entry : LogEntry). IsDecided history entry.content) before.log grown.grown.news are (none_decided history grown.grown.news grown.no_tolds))

-- after a step each Decide is of a transaction that was decided before or is now
abbrev StepDecides : List TxnId → Stepped → Type 0
StepDecides history done = AreDecided (with_firm history done.step.firm) done.state.part.log

module _ (primary : ℕ → ℕ) (history : List TxnId) (state : ReplicaState) (are : AreDecided history state.part.log) where
  -- a decision is one of these
  committed_decides : (txn : TxnId) (number : ℕ) → StepDecides history (committed primary state txn number)
  unfolding after_decide after_record
  committed_decides txn number =
      All-push (λ (entry : LogEntry). IsDecided (with_firm history (txn ∷ [])) entry.content) state.part.log _
      (log_stays history (txn ∷ []) state.part.log are) (becomes_member history txn)

  -- an operation decides nothing
  asked_decides : (from v : ℕ) (txn : TxnId) (number : ℕ) (place : Place) (op : Op) (mark : Bool) →
      StepDecides history (asked (started state) from v txn number place op mark)
  unfolding asked
  asked_decides from v txn number place op true = are
  asked_decides from v txn number place op false = grown_decided history state.part (after_op state.part txn place op) (grown-op state.part txn place op) are

  -- nor does an end
  finished_decides : (txn : TxnId) (commit : Bool) → StepDecides history (finished (started state) txn commit)
  unfolding finished
  finished_decides txn commit =
      cond_both (is_open state.part.log txn) (with_part (started state) (after_finish state.part txn commit)) (started state) (StepDecides history)
      (λ _. grown_decided history state.part (after_finish state.part txn commit) (grown-finish state.part txn commit) are) (λ _. are)

  -- so it is after any message
  lone_decides : (from : ℕ) (content : Content) (mark : Bool) → StepDecides history (lone_step primary state from content mark)
  unfolding lone_step prepared after_prepare after_record
  lone_decides from (Command v txn number what) mark =
      cond_both (has_decide (command_acts state.control txn number what)) (committed primary state txn number)
      (controlled primary state (after_command state.control txn number what) (command_acts state.control txn number what)) (StepDecides history)
      (λ _. committed_decides txn number) (λ _. are)
  lone_decides from (Answer v txn number answer) mark = are
  lone_decides from (Vote v txn) mark =
      cond_both (counts_vote state.control v txn && is_last_vote state.control v txn) (committed primary state txn (command_of state.control txn))
      (controlled primary state (after_vote state.control v txn) []) (StepDecides history) (λ _. committed_decides txn (command_of state.control txn))
      (λ _. are)
  lone_decides from (Ask v txn number table key op) mark = asked_decides from v txn number (table, key) op mark
  lone_decides from (Prepare v txn) mark = All-push (λ (entry : LogEntry). IsDecided history entry.content) state.part.log _ are tt
  lone_decides from (Finish v txn commit) mark = finished_decides txn commit
  lone_decides from (Decision v txn commit) mark = finished_decides txn commit
  lone_decides from content mark = are

-- ---- the system

-- each Decide in a log is of a transaction that was decided
abbrev pub HasDecided : ReplicaWorld → Type 0
HasDecided world = (v : ℕ) → AreDecided world.history (world.replicas v).part.log

module _ (shape : Shape) where
  -- a message came to an actor
  message_decided : (world : ReplicaWorld) (from to : ℕ) (content : Content) (mark : Bool) → HasDecided world →
      HasDecided (after_message shape world from to content mark)
  message_decided world from to content mark are v =
      cond_both (eqb to FRONT) (front_acts world (delivered_front (nothing_noted shape) world.front from content mark))
      (replica_acts world to (lone_step own_primary (world.replicas to) from content mark)) (λ (w : ReplicaWorld). AreDecided w.history (w.replicas v).part.log)
      (λ _. are v)
      (λ _. let step : Stepped = lone_step own_primary (world.replicas to) from content mark in
      cond_both (eqb v to) step.state (world.replicas v) (λ (one : ReplicaState). AreDecided (with_firm world.history step.step.firm) one.part.log)
      (λ _. lone_decides own_primary world.history (world.replicas to) (are to) from content mark)
      (λ _. log_stays world.history step.step.firm (world.replicas v).part.log (are v)))

  -- the first message of a queue came, or there was none
  first_decided : (world : ReplicaWorld) (from to : ℕ) (mark : Bool) (queue : List Content) → HasDecided world →
      HasDecided (after_first shape world from to mark queue)
  first_decided world from to mark [] are = are
  first_decided world from to mark (content ∷ rest) are = message_decided (record world { mail = with_way world.mail from to rest }) from to content mark are

  -- an event of the system
  queue_decided : (world : ReplicaWorld) (event : QueueEvent) → HasDecided world → HasDecided (after_replica_event shape world event)
  unfolding after_replica_event
  queue_decided world (deliver from to mark) are = first_decided world from to mark (world.mail from to) are
  queue_decided world (take_line number text said) are = are
  queue_decided world other are = are

  -- an event of the firm system
  firm_decided : (state : FirmWorld) (event : FirmEvent) → HasDecided state.world → HasDecided (after_firm_event shape state event).world
  unfolding after_firm_event
  firm_decided state (happens event) are = queue_decided state.world event are
  firm_decided state (reorder mail) are = are
  firm_decided state (join txn) are = are

  -- events, first to last
  events_decided : (events : List FirmEvent) (state : FirmWorld) → HasDecided state.world → HasDecided (fold (after_firm_event shape) state events).world
  events_decided [] state are = are
  events_decided (event ∷ events) state are = events_decided events (after_firm_event shape state event) (firm_decided state event are)

  -- after any events
  pub decided_after : (events : List FirmEvent) → HasDecided (firm_world_after shape events).world
  unfolding firm_world_after
  decided_after events = events_decided events (first_firm_world shape) (λ v. All-nil (λ (entry : LogEntry). IsDecided [] entry.content))
