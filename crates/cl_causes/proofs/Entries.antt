-- What an event adds to the transcript: a reply ABORTED only for an outcome on its way, and a quiet moment only where one is noted.
use Rattle.std.proofs.Common.{◌≡◌, ◌≢◌, ℕ, zero, suc, ◌+◌, Bool, true, false, cond, eqb, nat_le, ◌⊎◌, inl, inr, List, [], ◌∷◌, ◌++◌, append_assoc, map, Option, Some, None, Result, Ok, Err, refl, sym, ap, ◌∙◌, subst}
use Rattle.std.proofs.lemmas.Bool.{cases_eq, ne_eqb, cond-false, cond_both}
use Rattle.std.proofs.lemmas.List.{append-nil}
use Rattle.cl_actor.specs.Core.{Noted, CoreStep}
use Rattle.cl_front.specs.declared.current.Current.{Current}
use Rattle.cl_front.specs.Front.{FrontState, fed_front, fed_as, with_entries, stepped, delivered_front}
use Rattle.cl_front.specs.Session.{SessionState, is_outstanding, is_outstanding_in, with_waiting, with_command, Turned, joined, turned_by, next_current, taken, heard, session_after}
use Rattle.cl_front.specs.Sessions.{session_in, is_awaited}
use Rattle.cl_front.proofs.Turns.{taken-outstanding, taken-empty, taken-turn, next-outstanding}
use Rattle.cl_lines.specs.Line.{line_of}
use Rattle.cl_lines.specs.declared.line.Line.{Line}
use Rattle.cl_lines.specs.declared.line.Line.TheVariants.{Client, Operator}
use Rattle.cl_lines.specs.declared.line.LineFault.{LineFault}
use Rattle.cl_lines.specs.declared.out.Out.{Out}
use Rattle.cl_lines.specs.declared.out.Out.TheVariants.{Answer, BadLine}
use Rattle.cl_runs.specs.Queues.{QueueEvent, deliver, take_line, quieten}
use Rattle.cl_runs.specs.World.{Shape}
use Rattle.cl_serial.specs.Serial.{StandsAt}
use Rattle.cl_serial.specs.Transcript.{TranscriptEntry, fed, written, quiet}
use Rattle.cl_steps.specs.Steps.{nothing_done}
use Rattle.cl_steps.specs.declared.actors.TheConstants.{FRONT}
use Rattle.cl_system.specs.Replicas.{ReplicaWorld, nothing_noted, own_primary, with_way, front_acts, replica_acts, after_message, after_first, after_replica_event, MayReplicas}
use Rattle.cl_lone.specs.Lone.{lone_step}
use Rattle.cl_types.specs.declared.answers.Outcome.{Outcome}
use Rattle.cl_types.specs.declared.answers.Outcome.TheVariants.{Done, Begun, Committed, Aborted, NotTxn, InTxn, Full}
use Rattle.cl_types.specs.declared.limits.TheConstants.{OPERATIONS_MAX}
use Rattle.cl_types.specs.declared.operations.Command.{Command}
use Rattle.cl_types.specs.declared.operations.Command.TheVariants.{Begin, Work, Commit, Abort}
use Rattle.cl_types.specs.declared.operations.TxnId.{TxnId}
use Rattle.cl_wire.specs.Message as message
use Rattle.cl_wire.specs.Message.{Content}

-- ---- plain entries

abbrev is_plain_outcome : Outcome → Bool
is_plain_outcome (Done reply) = true
is_plain_outcome Begun = true
is_plain_outcome Committed = true
is_plain_outcome (Aborted cause) = false
is_plain_outcome NotTxn = true
is_plain_outcome InTxn = true
is_plain_outcome Full = true

-- the entry is neither a quiet moment nor a reply ABORTED
abbrev pub is_plain : TranscriptEntry → Bool
is_plain (fed number text) = true
is_plain (written (Answer session outcome)) = is_plain_outcome outcome
is_plain (written (BadLine line fault)) = true
is_plain quiet = false

abbrev pub ArePlain : List TranscriptEntry → Type 0
ArePlain [] = Unit {0}
ArePlain (entry ∷ entries) = (is_plain entry ≡ true) × ArePlain entries

pub plain_at : (entries : List TranscriptEntry) (i : ℕ) (entry : TranscriptEntry) → ArePlain entries → StandsAt entries i entry → is_plain entry ≡ true
plain_at [] i entry plain h = absurd cc
plain_at (x ∷ entries) zero entry plain h = let same : x ≡ entry = cc in ap is_plain (sym same) ∙ plain.0
plain_at (x ∷ entries) (suc i) entry plain h = plain_at entries i entry plain.1 h

-- ---- what turns print

refused_full : (current : Current) (outcome : Outcome) (full : Bool) → cond full (Err Full) (Ok (with_command current (current.operations + 1))) ≡ Err outcome →
    is_plain_outcome outcome ≡ true
refused_full current outcome true is = let same : Full ≡ outcome = cc in ap is_plain_outcome (sym same)
refused_full current outcome false is = absurd cc

refused_plain : (current : Option Current) (command : Command) (outcome : Outcome) → next_current current command ≡ Err outcome → is_plain_outcome outcome ≡ true
refused_plain None Begin outcome is = absurd cc
refused_plain None (Work table key op) outcome is = let same : NotTxn ≡ outcome = cc in ap is_plain_outcome (sym same)
refused_plain None Commit outcome is = let same : NotTxn ≡ outcome = cc in ap is_plain_outcome (sym same)
refused_plain None Abort outcome is = let same : NotTxn ≡ outcome = cc in ap is_plain_outcome (sym same)
refused_plain (Some current) Begin outcome is = let same : InTxn ≡ outcome = cc in ap is_plain_outcome (sym same)
refused_plain (Some current) (Work table key op) outcome is = refused_full current outcome (nat_le OPERATIONS_MAX current.operations) is
refused_plain (Some current) Commit outcome is = absurd cc
refused_plain (Some current) Abort outcome is = absurd cc

module _ (noted : Noted) (s : ℕ) where
  abbrev PrintsPlain : Turned → Type 0
  PrintsPlain turned = ArePlain (map written turned.outs)

  plain_turn : (session : SessionState) (command : Command) → PrintsPlain (taken noted s session) → (next : Result Current Outcome) → next_current session.current command ≡ next →
      PrintsPlain (joined (turned_by noted s session command next) (taken noted s (turned_by noted s session command next).session))
  plain_turn session command rest (Ok next) may =
      let turn : Turned = turned_by noted s session command (Ok next) in
      subst (λ turns. PrintsPlain (joined turn turns)) (sym (taken-outstanding noted s turn.session (next-outstanding session.current command next may))) tt
  plain_turn session command rest (Err outcome) may = (refused_plain session.current command outcome may, rest)

  plain_free : (waiting : List Command) (begun : ℕ) (current : Option Current) → is_outstanding_in current ≡ false →
      PrintsPlain (taken noted s (record { waiting = waiting; begun = begun; current = current }))
  plain_free [] begun current free = subst PrintsPlain (sym (taken-empty noted s (record { waiting = []; begun = begun; current = current }) refl)) tt
  plain_free (command ∷ rest) begun current free =
      let session : SessionState = record { waiting = rest; begun = begun; current = current } in
      subst PrintsPlain (sym (taken-turn noted s session command free)) (plain_turn session command (plain_free rest begun current free) (next_current current command) refl)

  pub plain_turns : (session : SessionState) → ArePlain (map written (taken noted s session).outs)
  plain_turns session = by (is_outstanding session) refl
    where
      by : (busy : Bool) → is_outstanding session ≡ busy → PrintsPlain (taken noted s session)
      by true busy = subst PrintsPlain (sym (taken-outstanding noted s session busy)) tt
      by false free = plain_free session.waiting session.begun session.current free

-- ---- what an event adds

-- the transcript has become this one by the event
pub data AddsEntries (world : ReplicaWorld) (event : QueueEvent) (after : List TranscriptEntry) : Type 0 where
  plain : (more : List TranscriptEntry) → after ≡ world.front.transcript ++ more → ArePlain more → AddsEntries world event after
  replied : (from : ℕ) (mark : Bool) (txn : TxnId) (number : ℕ) (outcome : Outcome) (rest : List Content) (more : List TranscriptEntry) → event ≡ deliver from FRONT mark →
      world.mail from FRONT ≡ message.Outcome txn number outcome ∷ rest → after ≡ world.front.transcript ++ written (Answer txn.session outcome) ∷ more → ArePlain more → AddsEntries world event after
  noted : event ≡ quieten → after ≡ world.front.transcript ++ quiet ∷ [] → AddsEntries world event after

module _ (shape : Shape) (world : ReplicaWorld) where
  line_plain : (front : FrontState) (number : ℕ) (reading : Result Line LineFault) →
      (more : List TranscriptEntry) × ((fed_as (nothing_noted shape) front number reading).state.transcript ≡ front.transcript ++ more) × ArePlain more
  line_plain front number (Ok (Client s command)) = (_, refl, plain_turns (nothing_noted shape) s (with_waiting (session_in front.sessions s) command))
  line_plain front number (Ok (Operator order)) = ([], sym (append-nil front.transcript), tt)
  line_plain front number (Err fault) = (_, refl, (refl, tt))

  line_adds : (number : ℕ) (text : List ℕ) (said : List Out) → AddsEntries world (take_line number text said) (fed_front (nothing_noted shape) world.front number text said).state.transcript
  unfolding fed_front
  line_adds number text said =
      let rest = line_plain (with_entries world.front (fed number text ∷ [])) number (line_of text) in
      plain (fed number text ∷ rest.0) (rest.1 ∙ append_assoc world.front.transcript (fed number text ∷ []) rest.0) (refl, rest.2)

  -- a message comes to the front
  front_adds : (from : ℕ) (content : Content) (rest : List Content) (mark : Bool) → world.mail from FRONT ≡ content ∷ rest →
      AddsEntries world (deliver from FRONT mark) (delivered_front (nothing_noted shape) world.front from content mark).state.transcript
  front_adds from (message.Outcome txn number outcome) rest mark waits =
      cond_both (is_awaited world.front.sessions txn number) (stepped world.front txn.session (heard (nothing_noted shape) txn.session (session_in world.front.sessions txn.session) outcome)) (record { state = world.front; step = nothing_done })
      (λ (done : CoreStep FrontState). AddsEntries world (deliver from FRONT mark) done.state.transcript)
      (λ awaited. replied from mark txn number outcome rest (map written (taken (nothing_noted shape) txn.session (session_after outcome (session_in world.front.sessions txn.session))).outs) refl waits refl
      (plain_turns (nothing_noted shape) txn.session (session_after outcome (session_in world.front.sessions txn.session))))
      (λ strange. plain [] (sym (append-nil world.front.transcript)) tt)
  front_adds from content rest mark waits = plain [] (sym (append-nil world.front.transcript)) tt

  message_adds : (from to : ℕ) (content : Content) (rest : List Content) (mark : Bool) → world.mail from to ≡ content ∷ rest →
      AddsEntries world (deliver from to mark) (after_message shape (record world { mail = with_way world.mail from to rest }) from to content mark).front.transcript
  message_adds from to content rest mark waits = by (cases_eq to FRONT)
    where
      by : (to ≡ FRONT) ⊎ (to ≢ FRONT) → AddsEntries world (deliver from to mark) (after_message shape (record world { mail = with_way world.mail from to rest }) from to content mark).front.transcript
      by (inl front) =
          subst (λ n. world.mail from n ≡ content ∷ rest → AddsEntries world (deliver from n mark) (after_message shape (record world { mail = with_way world.mail from n rest }) from n content mark).front.transcript) (sym front)
          (front_adds from content rest mark) waits
      by (inr apart) =
          let off : ReplicaWorld = record world { mail = with_way world.mail from to rest } in
          plain [] (ap (λ (w : ReplicaWorld). w.front.transcript) (cond-false (eqb to FRONT) (front_acts off (delivered_front (nothing_noted shape) world.front from content mark))
          (replica_acts off to (lone_step own_primary (world.replicas to) from content mark)) (ne_eqb to FRONT apart)) ∙ sym (append-nil world.front.transcript)) tt

  pub event_adds : (event : QueueEvent) → MayReplicas world event → AddsEntries world event (after_replica_event shape world event).front.transcript
  unfolding after_replica_event
  event_adds (deliver from to mark) may =
      subst (λ list. AddsEntries world (deliver from to mark) (after_first shape world from to mark list).front.transcript) (sym may.2) (message_adds from to may.0 may.1 mark may.2)
  event_adds (take_line number text said) may = line_adds number text said
  event_adds quieten may = noted refl refl
  event_adds other may = plain [] (sym (append-nil world.front.transcript)) tt
