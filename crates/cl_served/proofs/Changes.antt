-- What an event makes of the history and of what the sessions are told.
use Rattle.std.proofs.Common.{◌≡◌, ℕ, ◌≤◌, Bool, true, false, cond, eqb, ◌&&◌, inl, inr, ◌⊎◌, List, [], ◌∷◌, ◌++◌, length, map, All, Ok, Err, refl, sym, ap, subst, arith}
use Rattle.std.proofs.lemmas.Bool.{cond_both, cases_eq, eqb-true, eqb-false}
use Rattle.std.proofs.lemmas.List.{length-append}
use Rattle.std.proofs.lemmas.List.Elements.{All-head}
use Rattle.cl_commit.specs.Life.{CommitsWhole, IsTrueOutcome}
use Rattle.cl_control.specs.Calls.{command_acts, counts_vote, is_last_vote, after_command, after_vote}
use Rattle.cl_exchange.proofs.Delivered.{IsAtSome, home_below}
use Rattle.cl_exchange.proofs.Events.{session_between, stage_of}
use Rattle.cl_exchange.proofs.Heard.{heard_step}
use Rattle.cl_exchange.specs.Laws.{IsSoundWorld}
use Rattle.cl_front.specs.Front.{turns_with, with_entries, fed_as, fed_front, delivered_front}
use Rattle.cl_lines.specs.Line.{line_of}
use Rattle.cl_lines.specs.declared.line.Line.TheVariants.{Client, Operator}
use Rattle.cl_lines.specs.declared.out.Out.TheVariants.{BadLine}
use Rattle.cl_log.specs.Open.{is_among as is_member, is_open}
use Rattle.cl_lone.specs.Lone.{lone_step, committed, controlled, command_of}
use Rattle.cl_node.specs.Addressing.{home_in}
use Rattle.cl_runs.specs.Queues.{QueueEvent, deliver, take_line, quieten}
use Rattle.cl_runs.specs.World.{Shape, with_firm}
use Rattle.cl_serial.specs.Transcript.{TranscriptEntry, fed, written}
use Rattle.cl_steps.specs.declared.actors.TheConstants.{FRONT}
use Rattle.cl_steps.specs.declared.steps.Outgoing.{Outgoing}
use Rattle.cl_system.specs.Firm.{FirmWorld, TellsFirm, TellsOnceFirm}
use Rattle.cl_system.specs.Replicas.{ReplicaWorld, own_primary, nothing_noted, with_way, front_acts, replica_acts, after_message, after_first, after_replica_event, MayReplicas}
use Rattle.cl_system.specs.Roles.{IsOfSession, IsAddressed}
use Rattle.cl_told.proofs.Feeding.{IsToldIn}
use Rattle.cl_told.proofs.Fronts.{view_from}
use Rattle.cl_told.proofs.Shown.{Shows}
use Rattle.cl_told.specs.Told.{told_session, pending, IsTold, SessionsAreTold}
use Rattle.cl_types.specs.Placement.{IsNodeCount}
use Rattle.cl_types.specs.declared.answers.Outcome.{Outcome as CommandOutcome}
use Rattle.cl_types.specs.declared.operations.Command.{Command as ClientCommand}
use Rattle.cl_types.specs.declared.operations.TxnId.{TxnId}
use Rattle.cl_vnode.specs.Inputs.{has_decide}
use Rattle.cl_vnode.specs.Replica.{ReplicaState}
use Rattle.cl_vnode.specs.Step.{Stepped, started, with_part, after_finish, asked, prepared, finished}
use Rattle.cl_wire.specs.Message.{Content, Command, Outcome, Ask, Answer, Prepare, Vote, Finish}
use Rattle.cl_served.proofs.Fronts.{FrontHears, line_keeps, quiet_keeps, own_hears, others_keep, heard_after}

-- what a session is told
pub data Tells (shape : Shape) (state : FirmWorld) (after : List TranscriptEntry) (s : ℕ) : Type 0 where
  -- nothing of its transactions
  tells_same : told_session s after ≡ told_session s state.world.front.transcript → Tells shape state after s
  -- a true outcome of its outstanding command, COMMITTED only of a firm transaction
  tells_outcome : (txn : TxnId) (number : ℕ) (outcome : CommandOutcome) (sends : List Outgoing) → IsOfSession txn → txn.session ≡ s →
      IsTrueOutcome shape state.world (Outcome txn number outcome) → TellsFirm state.firm (Outcome txn number outcome) →
      FrontHears txn outcome state.world.front.transcript after sends → Tells shape state after s

-- what was decided has grown by one at most
pub data Grown (before after : List TxnId) : Type 0 where
  grown_same : after ≡ before → Grown before after
  grown_by : (txn : TxnId) → IsOfSession txn → is_member txn before ≡ false → after ≡ before ++ txn ∷ [] → Grown before after

-- either what was decided or the transcript changes
pub data Change (shape : Shape) (state : FirmWorld) (after : ReplicaWorld) : Type 0 where
  history_changes : after.front.transcript ≡ state.world.front.transcript → Grown state.world.history after.history → Change shape state after
  transcript_changes : after.history ≡ state.world.history → length state.world.front.transcript ≤ length after.front.transcript →
      ((txn : TxnId) → IsOfSession txn → Tells shape state after.front.transcript txn.session) → Change shape state after

-- ---- what a replica makes firm

abbrev IsFirm : TxnId → List TxnId → Type 0
IsFirm txn firm = (firm ≡ []) ⊎ (firm ≡ txn ∷ [])

module _ (state : ReplicaState) (from v : ℕ) (txn : TxnId) (mark : Bool) where
  command_firm : (number : ℕ) (what : ClientCommand) → IsFirm txn (lone_step own_primary state from (Command v txn number what) mark).step.firm
  unfolding lone_step
  command_firm number what =
      cond_both (has_decide (command_acts state.control txn number what)) (committed own_primary state txn number)
      (controlled own_primary state (after_command state.control txn number what) (command_acts state.control txn number what))
      (λ (done : Stepped). IsFirm txn done.step.firm) (λ decides. inr refl) (λ goes. inl refl)

  vote_firm : IsFirm txn (lone_step own_primary state from (Vote v txn) mark).step.firm
  unfolding lone_step
  vote_firm =
      cond_both (counts_vote state.control v txn && is_last_vote state.control v txn) (committed own_primary state txn (command_of state.control txn))
      (controlled own_primary state (after_vote state.control v txn) [])
      (λ (done : Stepped). IsFirm txn done.step.firm) (λ last. inr refl) (λ more. inl refl)

  answer_firm : (number : ℕ) (answer : _) → (lone_step own_primary state from (Answer v txn number answer) mark).step.firm ≡ []
  unfolding lone_step
  answer_firm number answer = refl

  prepare_firm : (lone_step own_primary state from (Prepare v txn) mark).step.firm ≡ []
  unfolding lone_step prepared
  prepare_firm = refl

  finish_firm : (commit : Bool) → (lone_step own_primary state from (Finish v txn commit) mark).step.firm ≡ []
  unfolding lone_step finished
  finish_firm commit = cond_both (is_open state.part.log txn) (with_part (started state) (after_finish state.part txn commit)) (started state)
      (λ (done : Stepped). done.step.firm ≡ []) (λ opened. refl) (λ closed. refl)

ask_firm : (state : ReplicaState) (from v : ℕ) (txn : TxnId) (number : ℕ) (table key : List ℕ) (op : _) (mark : Bool) →
    (lone_step own_primary state from (Ask v txn number table key op) mark).step.firm ≡ []
unfolding lone_step asked
ask_firm state from v txn number table key op true = refl
ask_firm state from v txn number table key op false = refl

grown_none : (history firm : List TxnId) → firm ≡ [] → Grown history (with_firm history firm)
grown_none history firm none = grown_same (ap (with_firm history) none)

grown_one : (history firm : List TxnId) (txn : TxnId) → IsOfSession txn → IsFirm txn firm → Grown history (with_firm history firm)
grown_one history firm txn of (inl none) = grown_none history firm none
grown_one history firm txn of (inr one) = subst (λ list. Grown history (with_firm history list)) (sym one) (by (is_member txn history) refl)
  where
    by : (b : Bool) → is_member txn history ≡ b → Grown history (cond b history (history ++ txn ∷ []))
    by true member = grown_same refl
    by false none = grown_by txn of none refl

-- ---- an event

module _ (shape : Shape) (counted : IsNodeCount shape.nodes) (state : FirmWorld) (sound : IsSoundWorld shape state.world)
    (tells : SessionsAreTold shape state.world) (whole : CommitsWhole shape state.world) where
  abbrev world : ReplicaWorld
  world = state.world

  abbrev popped : ℕ → ℕ → List Content → ReplicaWorld
  popped from to rest = record world { mail = with_way world.mail from to rest }

  replica_change : (from to : ℕ) (content : Content) (rest : List Content) (mark : Bool) → (to ≡ FRONT → ⊥) → IsAddressed shape.nodes from to content →
      Change shape state (replica_acts (popped from to rest) to (lone_step own_primary (world.replicas to) from content mark))
  replica_change from to (Command v txn number what) rest mark apart addressed = history_changes refl
      (grown_one world.history _ txn addressed.session (command_firm (world.replicas to) from v txn mark number what))
  replica_change from to (Outcome txn number outcome) rest mark apart addressed = absurd (apart addressed.receiver)
  replica_change from to (Answer v txn number answer) rest mark apart addressed = history_changes refl
      (grown_none world.history _ (answer_firm (world.replicas to) from v txn mark number answer))
  replica_change from to (Vote v txn) rest mark apart addressed = history_changes refl
      (grown_one world.history _ txn addressed.session (vote_firm (world.replicas to) from v txn mark))
  replica_change from to (Ask v txn number table key op) rest mark apart addressed = history_changes refl
      (grown_none world.history _ (ask_firm (world.replicas to) from v txn number table key op mark))
  replica_change from to (Prepare v txn) rest mark apart addressed = history_changes refl
      (grown_none world.history _ (prepare_firm (world.replicas to) from v txn mark))
  replica_change from to (Finish v txn commit) rest mark apart addressed = history_changes refl
      (grown_none world.history _ (finish_firm (world.replicas to) from v txn mark commit))
  replica_change from to content rest mark apart addressed = absurd addressed

  told_in : (txn : TxnId) → IsOfSession txn → IsTold shape world txn.session
  told_in txn of = let between = session_between txn of in tells txn.session between.0 between.1

  shown : (txn : TxnId) → IsOfSession txn →
      Shows txn.session world.front.transcript (pending txn.session world.front.transcript) (told_session txn.session world.front.transcript)
  shown txn of = record { few = (told_in txn of).few; left_is = refl; told_is = refl }

  longer : (more : List TranscriptEntry) → length world.front.transcript ≤ length (world.front.transcript ++ more)
  longer more = let total = length-append world.front.transcript more in omega (arith, total)

  outcome_change : (txn : TxnId) (number : ℕ) (outcome : CommandOutcome) (rest : List Content) (mark : Bool) →
      TellsFirm state.firm (Outcome txn number outcome) → IsOfSession txn →
      world.mail (home_in shape.nodes txn) FRONT ≡ Outcome txn number outcome ∷ rest →
      Change shape state (front_acts (popped (home_in shape.nodes txn) FRONT rest)
      (delivered_front (nothing_noted shape) world.front (home_in shape.nodes txn) (Outcome txn number outcome) mark))
  outcome_change txn number outcome rest mark firm of here =
      let h : ℕ = home_in shape.nodes txn in
      let at : IsAtSome shape.nodes world txn.session = stage_of shape counted world sound txn of in
      let true_is : IsTrueOutcome shape world (Outcome txn number outcome)
      = All-head (IsTrueOutcome shape world) (Outcome txn number outcome) rest
      (subst (All (IsTrueOutcome shape world)) here (whole.outcomes h (home_below shape.nodes txn.session counted))) in
      let told : IsToldIn shape world txn.session = view_from shape world txn.session (told_in txn of) in
      let hears = own_hears shape counted world sound.sessions txn of number outcome rest here at told (sym told.shows.left_is) (sym told.shows.told_is) in
      let after : List TranscriptEntry = heard_after shape counted world sound.sessions txn of number outcome rest here in
      subst (λ step. Change shape state (front_acts (popped h FRONT rest) step))
      (sym (heard_step shape counted world sound.sessions txn of number outcome rest here h mark at))
      (transcript_changes refl (longer _) (λ name own. elim (cases_eq name.session txn.session) [
        | inl same ↦ tells_outcome txn number outcome _ of (sym same) true_is firm hears
        | inr other ↦ tells_same (others_keep shape counted world sound.sessions txn of number outcome rest here name.session (λ same. other (sym same))
            (shown name own)).told_is
      ]))

  front_change : (from : ℕ) (content : Content) (rest : List Content) (mark : Bool) → TellsFirm state.firm content →
      IsAddressed shape.nodes from FRONT content → world.mail from FRONT ≡ content ∷ rest →
      Change shape state (front_acts (popped from FRONT rest) (delivered_front (nothing_noted shape) world.front from content mark))
  front_change from (Outcome txn number outcome) rest mark firm addressed here =
      subst (λ giver. world.mail giver FRONT ≡ Outcome txn number outcome ∷ rest →
      Change shape state (front_acts (popped giver FRONT rest) (delivered_front (nothing_noted shape) world.front giver (Outcome txn number outcome) mark)))
      (sym addressed.giver) (outcome_change txn number outcome rest mark firm addressed.session) here
  front_change from content rest mark firm addressed here = transcript_changes refl (omega arith) (λ name own. tells_same refl)

  message_change : (from to : ℕ) (content : Content) (rest : List Content) (mark : Bool) → TellsFirm state.firm content →
      IsAddressed shape.nodes from to content → world.mail from to ≡ content ∷ rest →
      Change shape state (after_message shape (popped from to rest) from to content mark)
  message_change from to content rest mark firm addressed here =
      elim (eqb to FRONT) as (λ b. (eqb to FRONT ≡ b) →
      Change shape state (cond b (front_acts (popped from to rest) (delivered_front (nothing_noted shape) world.front from content mark))
      (replica_acts (popped from to rest) to (lone_step own_primary (world.replicas to) from content mark)))) [
        | true ↦ λ at_front. subst (λ t. IsAddressed shape.nodes from t content → world.mail from t ≡ content ∷ rest →
            Change shape state (front_acts (popped from t rest) (delivered_front (nothing_noted shape) world.front from content mark)))
            (sym (eqb-true to FRONT at_front)) (front_change from content rest mark firm) addressed here
        | false ↦ λ elsewhere. replica_change from to content rest mark (eqb-false to FRONT elsewhere) addressed
      ] refl

  fed_longer : (number : ℕ) (text : List ℕ) (said : _) →
      length world.front.transcript ≤ length (fed_front (nothing_noted shape) world.front number text said).state.transcript
  unfolding fed_front
  fed_longer number text said = by (line_of text)
    where
      by : (reading : _) → length world.front.transcript ≤ length
          (fed_as (nothing_noted shape) (with_entries world.front (fed number text ∷ [])) number reading).state.transcript
      by (Ok (Client t command)) =
          let first = longer (fed number text ∷ []) in
          let second = length-append (world.front.transcript ++ fed number text ∷ []) (map written
          (turns_with (nothing_noted shape) (with_entries world.front (fed number text ∷ [])) t command).outs) in
          omega (arith, first, second)
      by (Ok (Operator order)) = longer _
      by (Err fault) =
          let first = longer (fed number text ∷ []) in
          let second = length-append (world.front.transcript ++ fed number text ∷ []) (written (BadLine number fault) ∷ []) in
          omega (arith, first, second)

  pub event_change : (event : QueueEvent) → MayReplicas world event → TellsOnceFirm state event → Change shape state (after_replica_event shape world event)
  unfolding after_replica_event
  event_change (deliver from to mark) (content, rest, here) once =
      subst (λ list. Change shape state (after_first shape world from to mark list)) (sym here)
      (message_change from to content rest mark (once content rest here)
      (All-head (IsAddressed shape.nodes from to) content rest (subst (All (IsAddressed shape.nodes from to)) here (sound.places.messages from to))) here)
  event_change (take_line number text said) may once = transcript_changes refl (fed_longer number text said) (λ name own.
      let told : IsToldIn shape world name.session = view_from shape world name.session (told_in name own) in
      tells_same (line_keeps shape world name.session (stage_of shape counted world sound name own) told (shown name own) (sym told.shows.left_is)
      (sym told.shows.told_is) number text said).told_is)
  event_change quieten may once = transcript_changes refl (longer _) (λ name own. tells_same (quiet_keeps name.session world.front (shown name own)).told_is)
  event_change other may once = transcript_changes refl (omega arith) (λ name own. tells_same refl)
