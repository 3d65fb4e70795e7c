-- An event among front and replicas: the transcript stays well shown, and has the line more that the event feeds.
use Rattle.std.proofs.Common.{◌≡◌, ℕ, ◌%◌, ◌≤◌, Bool, true, false, cond, eqb, List, [], ◌∷◌, ◌++◌, map, Result, Ok, Err, refl, sym, ap, ◌∙◌, subst, subst₂, append_assoc}
use Rattle.std.proofs.lemmas.List.{append-nil}
use Rattle.cl_actor.specs.Core.{CoreStep}
use Rattle.cl_exchange.specs.Laws.{IsSoundWorld}
use Rattle.cl_exchange.specs.Stage.{SessionView, telling, view_of}
use Rattle.cl_exchange.proofs.Delivered.{IsAtSome}
use Rattle.cl_exchange.proofs.Events.{session_between, stage_of}
use Rattle.cl_exchange.proofs.Heard.{its_outcome, heard_step}
use Rattle.cl_exchange.proofs.Runs.{first_addressed}
use Rattle.cl_front.specs.Front.{FrontState, with_entries, stepped, turns_with, fed_as, fed_front, delivered_front, delivered_content}
use Rattle.cl_front.specs.Session.{SessionState, is_outstanding, with_waiting, Turned, heard}
use Rattle.cl_front.specs.Sessions.{session_in, is_awaited}
use Rattle.cl_front.proofs.Turns.{taken-outstanding}
use Rattle.cl_lines.specs.Line.{line_of}
use Rattle.cl_lines.specs.declared.line.Line.{Line}
use Rattle.cl_lines.specs.declared.line.Line.TheVariants.{Client, Operator}
use Rattle.cl_lines.specs.declared.line.LineFault.{LineFault}
use Rattle.cl_lines.specs.declared.out.Out.{Out}
use Rattle.cl_lines.specs.declared.out.Out.TheVariants.{BadLine}
use Rattle.cl_lines.proofs.Readings.{line_of-session, client_of-client, fault_of-line, fault_of-fault}
use Rattle.cl_lone.specs.Lone.{lone_step}
use Rattle.cl_runs.specs.Queues.{QueueEvent, deliver, take_line, quieten}
use Rattle.cl_runs.specs.World.{Shape}
use Rattle.cl_serial.specs.Transactions.{Session}
use Rattle.cl_serial.specs.Transcript.{TranscriptEntry, fed, written, quiet, fed_line, fed_lines}
use Rattle.cl_serial.proofs.Gathered.{gather-push, fed_lines-fed, fed_lines-written}
use Rattle.cl_shown.proofs.Entries.{IsWell, well_line, well_quiet, well_refused}
use Rattle.cl_shown.proofs.Fronts.{printed_on, turns_well, heard_well, idle_at}
use Rattle.cl_shown.specs.Laws.{lines_of_firm}
use Rattle.cl_steps.specs.Steps.{nothing_done}
use Rattle.cl_steps.specs.declared.actors.TheConstants.{FRONT}
use Rattle.cl_system.specs.Firm.{happens}
use Rattle.cl_system.specs.Replicas.{ReplicaWorld, own_primary, nothing_noted, with_way, front_acts, replica_acts, after_message, after_first, after_replica_event, MayReplicas}
use Rattle.cl_system.specs.Roles.{IsOfSession, IsAddressed}
use Rattle.cl_told.specs.Told.{IsTold, SessionsAreTold, IsOutcomeOf, pending, told_session}
use Rattle.cl_told.proofs.Shown.{Shows, shows-line}
use Rattle.cl_told.proofs.Turning.{free_still}
use Rattle.cl_types.specs.Placement.{IsNodeCount}
use Rattle.cl_types.specs.declared.answers.Outcome.{Outcome as CommandOutcome}
use Rattle.cl_types.specs.declared.limits.TheConstants.{SESSIONS_MAX}
use Rattle.cl_types.specs.declared.operations.Command.{Command as ClientCommand}
use Rattle.cl_types.specs.declared.operations.TxnId.{TxnId}
use Rattle.cl_wire.specs.Message.{Content, Outcome}

-- ---- the lines that are fed

-- what is printed feeds no line
printed_feeds : (outs : List Out) (transcript : List TranscriptEntry) → fed_lines (printed_on transcript outs) ≡ fed_lines transcript
printed_feeds [] transcript = ap fed_lines (append-nil transcript)
printed_feeds (out ∷ outs) transcript =
    ap fed_lines (sym (append_assoc transcript (written out ∷ []) (map written outs))) ∙
    (printed_feeds outs (transcript ++ written out ∷ []) ∙ fed_lines-written transcript out)

module _ (shape : Shape) where
  line_feeds : (front : FrontState) (number : ℕ) (text : List ℕ) (reading : Result Line LineFault) →
      fed_lines (fed_as (nothing_noted shape) (with_entries front (fed number text ∷ [])) number reading).state.transcript
      ≡ fed_lines front.transcript ++ (number, text) ∷ []
  line_feeds front number text (Ok (Client s command)) =
      printed_feeds (turns_with (nothing_noted shape) (with_entries front (fed number text ∷ [])) s command).outs
      (front.transcript ++ fed number text ∷ []) ∙ fed_lines-fed front.transcript number text
  line_feeds front number text (Ok (Operator order)) = fed_lines-fed front.transcript number text
  line_feeds front number text (Err fault) =
      fed_lines-written (front.transcript ++ fed number text ∷ []) (BadLine number fault) ∙ fed_lines-fed front.transcript number text

  outcome_feeds : (front : FrontState) (txn : TxnId) (outcome : CommandOutcome) (awaited : Bool) →
      fed_lines (cond awaited (stepped front txn.session (heard (nothing_noted shape) txn.session (session_in front.sessions txn.session) outcome))
      (record { state = front; step = nothing_done })).state.transcript
      ≡ fed_lines front.transcript
  outcome_feeds front txn outcome true =
      printed_feeds (heard (nothing_noted shape) txn.session (session_in front.sessions txn.session) outcome).outs front.transcript
  outcome_feeds front txn outcome false = refl

  content_feeds : (front : FrontState) (content : Content) →
      fed_lines (delivered_content (nothing_noted shape) front content).state.transcript ≡ fed_lines front.transcript
  content_feeds front (Outcome txn number outcome) = outcome_feeds front txn outcome (is_awaited front.sessions txn number)
  content_feeds front content = refl

  message_feeds : (world : ReplicaWorld) (from to : ℕ) (content : Content) (mark at_front : Bool) →
      fed_lines (cond at_front (front_acts world (delivered_front (nothing_noted shape) world.front from content mark))
      (replica_acts world to (lone_step own_primary (world.replicas to) from content mark))).front.transcript
      ≡ fed_lines world.front.transcript
  message_feeds world from to content mark true = content_feeds world.front content
  message_feeds world from to content mark false = refl

  first_feeds : (world : ReplicaWorld) (from to : ℕ) (mark : Bool) (contents : List Content) →
      fed_lines (after_first shape world from to mark contents).front.transcript ≡ fed_lines world.front.transcript
  first_feeds world from to mark [] = refl
  first_feeds world from to mark (content ∷ rest) = message_feeds (record world { mail = with_way world.mail from to rest }) from to content mark (eqb to FRONT)

  -- an event
  pub event_feeds : (world : ReplicaWorld) (event : QueueEvent) →
      fed_lines (after_replica_event shape world event).front.transcript ≡ fed_lines world.front.transcript ++ lines_of_firm (happens event)
  unfolding after_replica_event fed_front
  event_feeds world (deliver from to mark) = first_feeds world from to mark (world.mail from to) ∙ sym (append-nil (fed_lines world.front.transcript))
  event_feeds world (take_line number text said) = line_feeds world.front number text (line_of text)
  event_feeds world quieten = gather-push fed_line world.front.transcript quiet
  event_feeds world other = sym (append-nil (fed_lines world.front.transcript))

-- ---- it stays well shown

module _ (shape : Shape) (counted : IsNodeCount shape.nodes) (world : ReplicaWorld) (sound : IsSoundWorld shape world) (told : SessionsAreTold shape world)
    (well : IsWell world.front.transcript) where
  -- ---- a line

  module _ (number : ℕ) (text : List ℕ) where
    -- the front with the line in its transcript
    abbrev state : FrontState
    state = with_entries world.front (fed number text ∷ [])

    module _ (s : ℕ) (command : ClientCommand) (reads : line_of text ≡ Ok (Client s command)) (from : 1 ≤ s) (to : s ≤ SESSIONS_MAX) where
      abbrev view : SessionView
      view = view_of shape.nodes world s

      abbrev turned : Turned
      turned = turns_with (nothing_noted shape) state s command

      abbrev left : List ClientCommand
      left = pending s world.front.transcript

      abbrev its : Session
      its = told_session s world.front.transcript

      with_line : IsWell state.transcript
      with_line = well_line world.front.transcript number text (fault_of-line text (Client s command) reads) well

      shows : Shows s state.transcript (left ++ command ∷ []) its
      shows =
          shows-line s world.front.transcript left its (record { few = (told s from to).few; left_is = refl; told_is = refl }) number text command
          (client_of-client text s command reads)

      idle_line : is_outstanding view.session ≡ false → IsWell (printed_on state.transcript turned.outs)
      idle_line idle =
          let at : IsAtSome shape.nodes world s = sound.stages s from to in
          let is = idle_at shape.nodes s view left its at.0 at.1 ((told s from to).tells at.0 at.1) idle in
          let lefts : left ++ command ∷ [] ≡ view.session.waiting ++ command ∷ [] = ap (λ list. list ++ command ∷ [])
          (is.none_left ∙ sym ((told s from to).rests idle)) in
          turns_well (nothing_noted shape) s (view.session.waiting ++ command ∷ []) view.session.begun view.session.current state.transcript its idle
          (subst (λ list. Shows s state.transcript list its) lefts shows)
          (free_still its view.session (with_waiting view.session command) refl view.session.current is.free) is.most with_line

      busy_line : is_outstanding view.session ≡ true → IsWell (printed_on state.transcript turned.outs)
      busy_line busy =
          subst (λ (turns : Turned). IsWell (printed_on state.transcript turns.outs))
          (sym (taken-outstanding (nothing_noted shape) s (with_waiting view.session command) busy))
          (subst IsWell (sym (append-nil state.transcript)) with_line)

      client_line : IsWell (printed_on state.transcript turned.outs)
      client_line = by (is_outstanding view.session) refl
        where
          by : (busy : Bool) → is_outstanding view.session ≡ busy → IsWell (printed_on state.transcript turned.outs)
          by true busy = busy_line busy
          by false idle = idle_line idle

    line_well : (reading : Result Line LineFault) → line_of text ≡ reading → IsWell (fed_as (nothing_noted shape) state number reading).state.transcript
    line_well (Ok (Client s command)) reads = let between = line_of-session text s command reads in client_line s command reads between.0 between.1
    line_well (Ok (Operator order)) reads = well_line world.front.transcript number text (fault_of-line text (Operator order) reads) well
    line_well (Err fault) reads = well_refused world.front.transcript number text fault (fault_of-fault text fault reads) well

  -- ---- a message

  -- the world once the message was taken off
  abbrev off : ℕ → ℕ → List Content → ReplicaWorld
  off from to rest = record world { mail = with_way world.mail from to rest }

  outcome_well : (txn : TxnId) → IsOfSession txn → (number : ℕ) (outcome : CommandOutcome) (rest : List Content) (mark : Bool) →
      world.mail (txn.session % shape.nodes) FRONT ≡ Outcome txn number outcome ∷ rest →
      IsWell (delivered_front (nothing_noted shape) world.front (txn.session % shape.nodes) (Outcome txn number outcome) mark).state.transcript
  outcome_well txn of number outcome rest mark waits =
      let between = session_between txn of in
      let at : IsAtSome shape.nodes world txn.session = stage_of shape counted world sound txn of in
      let own : IsTold shape world txn.session = told txn.session between.0 between.1 in
      let is = its_outcome shape counted world sound.sessions txn of number outcome rest waits at in
      let same = is.same in
      let outcome_is : is.outcome ≡ outcome = cc in
      let tells = own.tells (telling is.current is.outcome is.entries) is.at in
      let session : SessionState = session_in world.front.sessions txn.session in
      subst (λ (step : CoreStep FrontState). IsWell step.state.transcript)
      (sym (heard_step shape counted world sound.sessions txn of number outcome rest waits (txn.session % shape.nodes) mark at))
      (heard_well (nothing_noted shape) txn.session session is.current tells.0 outcome world.front.transcript (told_session txn.session world.front.transcript) is.at.inside.inside
      (record { few = own.few; left_is = tells.1; told_is = refl }) tells.2 (subst (IsOutcomeOf tells.0) outcome_is tells.3) is.at.inside.operations well)

  -- a message that is no outcome
  other_well : (from to : ℕ) (content : Content) (rest : List Content) (mark at_front : Bool) →
      (delivered_content (nothing_noted shape) world.front content).state.transcript ≡ world.front.transcript →
      IsWell (cond at_front (front_acts (off from to rest) (delivered_front (nothing_noted shape) world.front from content mark))
      (replica_acts (off from to rest) to (lone_step own_primary (world.replicas to) from content mark))).front.transcript
  other_well from to content rest mark true same = subst IsWell (sym same) well
  other_well from to content rest mark false same = well

  message_well : (from to : ℕ) (content : Content) (rest : List Content) (mark : Bool) → world.mail from to ≡ content ∷ rest →
      IsAddressed shape.nodes from to content →
      IsWell (after_message shape (off from to rest) from to content mark).front.transcript
  message_well from to (Outcome txn number outcome) rest mark waits is =
      subst₂ (λ giver receiver. world.mail giver receiver ≡ Outcome txn number outcome ∷ rest →
      IsWell (after_message shape (off giver receiver rest) giver receiver (Outcome txn number outcome) mark).front.transcript)
      (sym is.giver) (sym is.receiver) (λ here. outcome_well txn is.session number outcome rest mark here) waits
  message_well from to content rest mark waits is = other_well from to content rest mark (eqb to FRONT) refl

  -- an event
  pub event_well : (event : QueueEvent) → MayReplicas world event → IsWell (after_replica_event shape world event).front.transcript
  unfolding after_replica_event fed_front
  event_well (deliver from to mark) (content, rest, waits) =
      subst (λ list. IsWell (after_first shape world from to mark list).front.transcript) (sym waits)
      (message_well from to content rest mark waits (first_addressed shape world from to content rest sound waits))
  event_well (take_line number text said) may = line_well number text (line_of text) refl
  event_well quieten may = well_quiet world.front.transcript well
  event_well other may = well
