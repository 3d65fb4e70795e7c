-- After each event a transaction has done what was answered to it, and what its messages say.
use Rattle.std.proofs.Common.{◌≡◌, ◌≢◌, ℕ, Bool, true, false, cond, eqb, ◌&&◌, inl, inr, ◌⊎◌, List, [], ◌∷◌, ◌++◌, filter, All, refl, sym, ap, ◌∙◌, subst, subst₂}
use Rattle.std.proofs.lemmas.Bool.{cond_both, cond-true, cases_eq, eq-eqb, eqb-true, eqb-false, and_parts}
use Rattle.std.proofs.lemmas.List.{append-nil}
use Rattle.std.proofs.lemmas.List.Elements.{All-nil, All-head, All-tail}
use Rattle.std.proofs.lemmas.List.Sums.{fold-append}
use Rattle.cl_commit.specs.Life.{CommitsWhole}
use Rattle.cl_control.specs.Calls.{command_acts, counts_vote, is_last_vote}
use Rattle.cl_exchange.proofs.Delivered.{IsAtSome, command_of_stage}
use Rattle.cl_exchange.proofs.Events.{session_between, stage_of}
use Rattle.cl_exchange.proofs.Heard.{heard_step}
use Rattle.cl_exchange.specs.Laws.{IsSoundWorld}
use Rattle.cl_exchange.specs.Stage.{asking, view_of, is_of_session}
use Rattle.cl_front.specs.Front.{stepped, fed_front, delivered_front, quiet_front}
use Rattle.cl_ledger.specs.Ledgers.{IsLedgerOf, decision_steps, finish_steps, undo_steps, message_steps, first_steps, event_steps}
use Rattle.cl_log.specs.LogEntry.{LogEntry}
use Rattle.cl_log.specs.Open.{is_open}
use Rattle.cl_log.specs.Rest.{rest_to_undo}
use Rattle.cl_lone.specs.Lone.{lone_step}
use Rattle.cl_node.specs.Addressing.{home_in}
use Rattle.cl_order.specs.Ledger.{Ledger}
use Rattle.cl_order.specs.Steps.{Step, after_step, after_steps, new_ledger}
use Rattle.cl_part.specs.Calls.{undo_one, after_undo}
use Rattle.cl_part.specs.Laws.{steps_of, step_undoing}
use Rattle.cl_part.specs.State.{State}
use Rattle.cl_roster.specs.Roster.{IsClusterSize}
use Rattle.cl_runs.specs.Queues.{QueueEvent, deliver, take_line, quieten}
use Rattle.cl_runs.specs.World.{Shape}
use Rattle.cl_serial.specs.PlainMap.{Operation}
use Rattle.cl_serial.specs.Transcript.{TranscriptEntry}
use Rattle.cl_steps.specs.declared.actors.TheConstants.{FRONT}
use Rattle.cl_steps.specs.declared.steps.Outgoing.{Outgoing}
use Rattle.cl_system.proofs.Reordering.{reordered_all}
use Rattle.cl_system.specs.Firm.{FirmWorld, AreReordered, with_order}
use Rattle.cl_system.specs.Replicas.{ReplicaWorld, Mail, own_primary, nothing_noted, with_way, front_acts, replica_acts, after_message, after_first, after_replica_event, first_replica_world, MayReplicas}
use Rattle.cl_system.specs.Roles.{IsOfSession, IsAddressed}
use Rattle.cl_told.proofs.Feeding.{IsToldIn}
use Rattle.cl_told.proofs.Fronts.{view_from}
use Rattle.cl_told.proofs.Shown.{Shows}
use Rattle.cl_told.specs.Told.{told_session, pending, IsTold, SessionsAreTold}
use Rattle.cl_types.specs.Placement.{IsNodeCount}
use Rattle.cl_types.specs.declared.answers.Outcome.{Outcome as CommandOutcome}
use Rattle.cl_types.specs.declared.operations.Command.{Command as ClientCommand}
use Rattle.cl_types.specs.declared.operations.TxnId.{TxnId}
use Rattle.cl_vnode.specs.Inputs.{has_decide}
use Rattle.cl_vnode.specs.Replica.{ReplicaState}
use Rattle.cl_wire.specs.Message.{Content, Command, Outcome, Ask, Answer, Prepare, Vote, Finish}
use Rattle.cl_served.proofs.Fronts.{FrontHears, line_keeps, quiet_keeps, nothing_keeps, own_hears, others_keep, heard_after, turned}
use Rattle.cl_served.proofs.Hearing.{served_kept, served_unsent, served_heard, heard_messages}
use Rattle.cl_served.proofs.Serving.{told_done, ServesMessage, IsTheWork, the_work, IsServedBy, IsServed, All-popped, command_serves, answer_serves, vote_serves, prepare_serves, finish_serves, still_served, served_at_first}
use Rattle.cl_served.proofs.Worked.{ask_served}

-- ---- steps that do no operation

abbrev LeavesDone : List Step → Type 0
LeavesDone steps = (ledger : Ledger) (name : TxnId) → (after_steps ledger steps).done name ≡ ledger.done name

leaves_append : (xs ys : List Step) → LeavesDone xs → LeavesDone ys → LeavesDone (xs ++ ys)
leaves_append xs ys first then_ ledger name =
    ap (λ (next : Ledger). next.done name) (fold-append after_step ledger xs ys) ∙ (then_ (after_steps ledger xs) name ∙ first ledger name)

undoing_leaves : (v : ℕ) (part : State) (entries : List LogEntry) → LeavesDone (step_undoing v part entries)
undoing_leaves v part [] ledger name = refl
undoing_leaves v part (entry ∷ rest) ledger name = refl

undo_leaves : (v : ℕ) (part : State) (txn : TxnId) (entries : List LogEntry) → LeavesDone (undo_steps v part txn entries)
undo_leaves v part txn [] ledger name = refl
undo_leaves v part txn (entry ∷ rest) ledger name =
    leaves_append (steps_of v part (undo_one txn)) (undo_steps v (after_undo part txn) txn rest) (undoing_leaves v part (rest_to_undo part.log txn))
    (undo_leaves v (after_undo part txn) txn rest) ledger name

finish_leaves : (v : ℕ) (part : State) (txn : TxnId) (commit : Bool) → LeavesDone (finish_steps v part txn commit)
finish_leaves v part txn true ledger name = refl
finish_leaves v part txn false ledger name = leaves_append (undo_steps v part txn (rest_to_undo part.log txn)) _
    (undo_leaves v part txn (rest_to_undo part.log txn)) (λ next who. refl) ledger name

module _ (v : ℕ) (replica : ReplicaState) (w : ℕ) (txn : TxnId) (mark : Bool) where
  command_leaves : (number : ℕ) (what : ClientCommand) → LeavesDone (message_steps v replica (Command w txn number what) mark)
  command_leaves number what = cond_both (has_decide (command_acts replica.control txn number what)) (decision_steps v txn) [] LeavesDone
      (λ decides ledger name. refl) (λ goes ledger name. refl)

  vote_leaves : LeavesDone (message_steps v replica (Vote w txn) mark)
  vote_leaves = cond_both (counts_vote replica.control w txn && is_last_vote replica.control w txn) (decision_steps v txn) [] LeavesDone
      (λ last ledger name. refl) (λ more ledger name. refl)

  end_leaves : (commit : Bool) → LeavesDone (message_steps v replica (Finish w txn commit) mark)
  end_leaves commit = cond_both (is_open replica.part.log txn) (finish_steps v replica.part txn commit) [] LeavesDone
      (λ opened. finish_leaves v replica.part txn commit) (λ closed ledger name. refl)

-- ---- an event

module _ (shape : Shape) (size : IsClusterSize shape.nodes shape.spares) (state : FirmWorld) (ledger : Ledger) (sound : IsSoundWorld shape state.world)
    (tells : SessionsAreTold shape state.world) (whole : CommitsWhole shape state.world)
    (is : IsLedgerOf shape state ledger) (name : TxnId) (own : IsOfSession name) (served : IsServed state.world ledger.done name) where
  abbrev world : ReplicaWorld
  world = state.world

  counted : IsNodeCount shape.nodes
  counted = size.counted

  at_stage : (txn : TxnId) → IsOfSession txn → IsAtSome shape.nodes world txn.session
  at_stage txn of = stage_of shape counted world sound txn of

  told_in : (txn : TxnId) → IsOfSession txn → IsTold shape world txn.session
  told_in txn of = let between = session_between txn of in tells txn.session between.0 between.1

  shown : Shows name.session world.front.transcript (pending name.session world.front.transcript) (told_session name.session world.front.transcript)
  shown = record { few = (told_in name own).few; left_is = refl; told_is = refl }

  -- what the first message says
  module _ (from to : ℕ) (content : Content) (rest : List Content) (here : world.mail from to ≡ content ∷ rest) where
    abbrev popped : ReplicaWorld
    popped = record world { mail = with_way world.mail from to rest }

    says : ServesMessage (pending name.session world.front.transcript) served.extra name content
    says = All-head (ServesMessage (pending name.session world.front.transcript) served.extra name) content rest
        (subst (All (ServesMessage (pending name.session world.front.transcript) served.extra name)) here (served.messages from to))

    left_addressed : (a b : ℕ) → All (IsAddressed shape.nodes a b) (with_way world.mail from to rest a b)
    left_addressed a b = cond_both (eqb b to && eqb a from) rest (world.mail a b) (All (IsAddressed shape.nodes a b))
        (λ at. let both = and_parts _ _ at in
        subst₂ (λ x y. All (IsAddressed shape.nodes x y) rest) (sym (eqb-true a from both.1)) (sym (eqb-true b to both.0))
        (All-tail (IsAddressed shape.nodes from to) content rest (subst (All (IsAddressed shape.nodes from to)) here (sound.places.messages from to))))
        (λ elsewhere. sound.places.messages a b)

    -- a replica does no operation
    left_done : (mark : Bool) → LeavesDone (message_steps to (world.replicas to) content mark) →
        All (λ send. ServesMessage (pending name.session world.front.transcript) served.extra name send.payload)
        (lone_step own_primary (world.replicas to) from content mark).step.sends →
        IsServed (replica_acts popped to (lone_step own_primary (world.replicas to) from content mark))
        (after_steps ledger (message_steps to (world.replicas to) content mark)).done name
    left_done mark leaves sends =
        subst (λ done. IsServedBy world.front.transcript (replica_acts popped to (lone_step own_primary (world.replicas to) from content mark)).mail done name)
        (sym (leaves ledger name))
        (still_served world from to content rest here (lone_step own_primary (world.replicas to) from content mark) name (ledger.done name) served sends)

  abbrev Serves : ℕ → ℕ → Content → List Content → Bool → Type 0
  Serves from to content rest mark = IsServed
      (replica_acts (record world { mail = with_way world.mail from to rest }) to (lone_step own_primary (world.replicas to) from content mark))
      (after_steps ledger (message_steps to (world.replicas to) content mark)).done name

  -- the command that comes is the outstanding one
  work_is : (v number : ℕ) (txn : TxnId) (what : ClientCommand) (rest : List Content) → IsOfSession txn →
      world.mail FRONT (home_in shape.nodes txn) ≡ Command v txn number what ∷ rest →
      IsTheWork (pending txn.session world.front.transcript) what
  work_is v number txn what rest of here =
      let at = at_stage txn of in
      let it = command_of_stage shape.nodes txn.session (view_of shape.nodes world txn.session) at.0 (Command v txn number what)
      (filter (is_of_session txn.session) rest) at.1
      (ap (filter (is_of_session txn.session)) here ∙ cond-true _ _ _ (eq-eqb txn.session txn.session refl)) in
      let same = it.same in
      let what_is : it.what ≡ what = cc in
      let told_so = (told_in txn of).tells (asking it.current it.what it.entries) it.at in
      subst (IsTheWork (pending txn.session world.front.transcript)) what_is (the_work (pending txn.session world.front.transcript) _ it.what told_so.0)

  to_replica : (from to : ℕ) (content : Content) (rest : List Content) (mark : Bool) → (to ≡ FRONT → ⊥) → IsAddressed shape.nodes from to content →
      world.mail from to ≡ content ∷ rest → Serves from to content rest mark
  to_replica from to (Command v txn number what) rest mark apart addressed at =
      subst₂ (λ giver receiver. world.mail giver receiver ≡ Command v txn number what ∷ rest → Serves giver receiver (Command v txn number what) rest mark)
      (sym addressed.giver) (sym (addressed.receiver ∙ addressed.node))
      (λ here. let h : ℕ = home_in shape.nodes txn in
      left_done FRONT h (Command v txn number what) rest here mark (command_leaves h (world.replicas h) v txn mark number what)
      (command_serves (pending name.session world.front.transcript) served.extra name (world.replicas h) txn v number what mark
      (says FRONT h (Command v txn number what) rest here)
      (λ same. subst (λ (t : TxnId). IsTheWork (pending t.session world.front.transcript) what) same
      (work_is v number txn what rest addressed.session here)))) at
  to_replica from to (Outcome txn number outcome) rest mark apart addressed here = absurd (apart addressed.receiver)
  to_replica from to (Answer v txn number answer) rest mark apart addressed here =
      left_done from to (Answer v txn number answer) rest here mark (λ before who. refl)
      (answer_serves (pending name.session world.front.transcript) served.extra name (world.replicas to) txn from v number answer mark
      (says from to (Answer v txn number answer) rest here))
  to_replica from to (Vote v txn) rest mark apart addressed here =
      left_done from to (Vote v txn) rest here mark (vote_leaves to (world.replicas to) v txn mark)
      (vote_serves (pending name.session world.front.transcript) served.extra name (world.replicas to) txn from v mark (says from to (Vote v txn) rest here))
  to_replica from to (Ask v txn number table key op) rest mark apart addressed at =
      subst₂ (λ giver receiver. world.mail giver receiver ≡ Ask v txn number table key op ∷ rest →
      Serves giver receiver (Ask v txn number table key op) rest mark) (sym addressed.0.giver) (sym addressed.0.receiver)
      (λ here. ask_served shape counted world ledger txn v addressed.0.node
      (record { sound = is.sound v addressed.0.node; log = is.logs v addressed.0.node }) number table key op rest here sound.places.messages
      (is.on (table, key) ∙ sym addressed.1)
      (whole.lives txn addressed.0.session) (at_stage txn addressed.0.session) (told_in txn addressed.0.session) name served mark) at
  to_replica from to (Prepare v txn) rest mark apart addressed here =
      left_done from to (Prepare v txn) rest here mark (λ before who. refl)
      (prepare_serves (pending name.session world.front.transcript) served.extra name (world.replicas to) txn from v mark
      (says from to (Prepare v txn) rest here))
  to_replica from to (Finish v txn commit) rest mark apart addressed here =
      left_done from to (Finish v txn commit) rest here mark (end_leaves to (world.replicas to) v txn mark commit)
      (finish_serves (pending name.session world.front.transcript) served.extra name (world.replicas to) txn from v commit mark)
  to_replica from to content rest mark apart addressed here = absurd addressed

  -- an outcome comes to the front
  module _ (txn : TxnId) (number : ℕ) (outcome : CommandOutcome) (rest : List Content) (of : IsOfSession txn)
      (here : world.mail (home_in shape.nodes txn) FRONT ≡ Outcome txn number outcome ∷ rest) where
    abbrev home : ℕ
    home = home_in shape.nodes txn

    abbrev left_mail : Mail
    left_mail = with_way world.mail home FRONT rest

    abbrev before : List TranscriptEntry
    before = world.front.transcript

    abbrev after : List TranscriptEntry
    after = heard_after shape counted world sound.sessions txn of number outcome rest here

    abbrev sends : List Outgoing
    sends = (turned shape counted world sound.sessions txn of number outcome rest here).sends

    outcome_by : (name.session ≡ txn.session) ⊎ (name.session ≢ txn.session) →
        IsServed (front_acts (popped home FRONT (Outcome txn number outcome) rest here)
        (stepped world.front txn.session (turned shape counted world sound.sessions txn of number outcome rest here))) ledger.done name
    outcome_by (inl same) =
        let told : IsToldIn shape world txn.session = view_from shape world txn.session (told_in txn of) in
        let hears : FrontHears txn outcome before after sends = own_hears shape counted world sound.sessions txn of number outcome rest here
        (at_stage txn of) told (sym told.shows.left_is) (sym told.shows.told_is) in
        served_heard before after sends name txn same outcome (ledger.done name) world.mail hears served
        (says home FRONT (Outcome txn number outcome) rest here) left_mail
        (heard_messages shape counted world sound.sessions txn of number outcome rest here name same (whole.lives name own)
        (at_stage txn of) sound.places.messages (pending name.session after)
        (left_addressed home FRONT (Outcome txn number outcome) rest here))
    outcome_by (inr other) =
        served_kept before after sends name left_mail (ledger.done name)
        (others_keep shape counted world sound.sessions txn of number outcome rest here name.session (λ same. other (sym same)) shown)
        (record {
          extra = served.extra;
          done_is = served.done_is;
          is_extra = served.is_extra;
          messages = All-popped (ServesMessage (pending name.session before) served.extra name) world.mail home FRONT
              (Outcome txn number outcome) rest here served.messages;
        })

    outcome_served : (mark : Bool) → IsServed
        (front_acts (popped home FRONT (Outcome txn number outcome) rest here)
        (delivered_front (nothing_noted shape) world.front home (Outcome txn number outcome) mark)) ledger.done name
    outcome_served mark =
        subst (λ step. IsServed (front_acts (popped home FRONT (Outcome txn number outcome) rest here) step) ledger.done name)
        (sym (heard_step shape counted world sound.sessions txn of number outcome rest here home mark (at_stage txn of)))
        (outcome_by (cases_eq name.session txn.session))

  to_front : (from : ℕ) (content : Content) (rest : List Content) (mark : Bool) → IsAddressed shape.nodes from FRONT content →
      (here : world.mail from FRONT ≡ content ∷ rest) →
      IsServed (front_acts (popped from FRONT content rest here) (delivered_front (nothing_noted shape) world.front from content mark)) ledger.done name
  to_front from (Outcome txn number outcome) rest mark addressed here =
      subst (λ giver. (there : world.mail giver FRONT ≡ Outcome txn number outcome ∷ rest) →
      IsServed (front_acts (popped giver FRONT (Outcome txn number outcome) rest there)
      (delivered_front (nothing_noted shape) world.front giver (Outcome txn number outcome) mark)) ledger.done name)
      (sym addressed.giver) (λ there. outcome_served txn number outcome rest addressed.session there mark) here
  to_front from content rest mark addressed here =
      served_kept world.front.transcript world.front.transcript [] name (with_way world.mail from FRONT rest) (ledger.done name)
      (nothing_keeps name.session world.front.transcript)
      (record {
        extra = served.extra;
        done_is = served.done_is;
        is_extra = served.is_extra;
        messages = All-popped
            (ServesMessage (pending name.session world.front.transcript) served.extra name) world.mail from FRONT content rest here served.messages;
      })

  message_served : (from to : ℕ) (content : Content) (rest : List Content) (mark : Bool) → IsAddressed shape.nodes from to content →
      (here : world.mail from to ≡ content ∷ rest) →
      IsServed (after_message shape (popped from to content rest here) from to content mark)
      (after_steps ledger (cond (eqb to FRONT) [] (message_steps to (world.replicas to) content mark))).done name
  message_served from to content rest mark addressed here =
      elim (eqb to FRONT) as (λ b. (eqb to FRONT ≡ b) →
      IsServed (cond b (front_acts (popped from to content rest here) (delivered_front (nothing_noted shape) world.front from content mark))
      (replica_acts (popped from to content rest here) to (lone_step own_primary (world.replicas to) from content mark)))
      (after_steps ledger (cond b [] (message_steps to (world.replicas to) content mark))).done name) [
        | true ↦ λ at_front. subst (λ t. IsAddressed shape.nodes from t content → (there : world.mail from t ≡ content ∷ rest) →
            IsServed (front_acts (popped from t content rest there) (delivered_front (nothing_noted shape) world.front from content mark)) ledger.done name)
            (sym (eqb-true to FRONT at_front)) (to_front from content rest mark) addressed here
        | false ↦ λ elsewhere. to_replica from to content rest mark (eqb-false to FRONT elsewhere) addressed here
      ] refl

  -- each event that may happen
  pub event_served : (event : QueueEvent) → MayReplicas world event →
      IsServed (after_replica_event shape world event) (after_steps ledger (event_steps world event)).done name
  unfolding after_replica_event event_steps
  event_served (deliver from to mark) (content, rest, here) =
      subst (λ list. IsServed (after_first shape world from to mark list) (after_steps ledger (first_steps world to mark list)).done name) (sym here)
      (message_served from to content rest mark
      (All-head (IsAddressed shape.nodes from to) content rest (subst (All (IsAddressed shape.nodes from to)) here (sound.places.messages from to))) here)
  event_served (take_line number text said) may =
      let told : IsToldIn shape world name.session = view_from shape world name.session (told_in name own) in
      served_kept world.front.transcript (fed_front (nothing_noted shape) world.front number text said).state.transcript
      (fed_front (nothing_noted shape) world.front number text said).step.sends name world.mail (ledger.done name)
      (line_keeps shape world name.session (at_stage name own) told shown (sym told.shows.left_is) (sym told.shows.told_is) number text said) served
  event_served quieten may = served_unsent world.front.transcript (quiet_front world.front).transcript [] name world.mail (ledger.done name)
      (quiet_keeps name.session world.front shown) served
  event_served other may = served

-- another order of what is on its way leaves what its messages say
pub reorder_served : (world : ReplicaWorld) (mail : Mail) (done : TxnId → List Operation) (name : TxnId) → AreReordered world.mail mail →
    IsServed world done name → IsServed (with_order world mail) done name
reorder_served world mail done name are served = record {
  extra = served.extra;
  done_is = served.done_is;
  is_extra = served.is_extra;
  messages = λ from to. reordered_all world.mail mail are (ServesMessage (pending name.session world.front.transcript) served.extra name) from to
      (served.messages from to);
}

-- at the start nothing is done
pub served_first : (shape : Shape) (on : _) (name : TxnId) → IsServed (first_replica_world shape) (new_ledger on).done name
served_first shape on name = record {
  extra = [];
  done_is = sym (append-nil (told_done (told_session name.session []) name.number) ∙ served_at_first name);
  is_extra = inl refl;
  messages = λ from to. All-nil (ServesMessage (pending name.session []) [] name);
}
