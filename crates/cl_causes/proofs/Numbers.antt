-- A transaction of a session at the front has at least as many commands as operations.
use Rattle.std.proofs.Common.{◌≡◌, ℕ, zero, suc, ◌+◌, ◌-◌, ◌≤◌, Bool, true, false, cond, nat_le, eqb, List, [], ◌∷◌, replicate, Option, Some, None, Result, Ok, Err, slice_set, slice_index_or, refl, sym, subst, arith}
use Rattle.std.proofs.lemmas.Bool.{cond_both}
use Rattle.cl_actor.specs.Core.{Noted, CoreStep}
use Rattle.cl_front.specs.declared.current.Current.{Current}
use Rattle.cl_front.specs.Front.{FrontState, new_front, fed_front, fed_as, with_entries, stepped, delivered_front}
use Rattle.cl_front.specs.Session.{SessionState, no_session, is_outstanding, is_outstanding_in, with_waiting, with_command, Turned, joined, turned_by, next_current, taken, heard, current_after, session_after}
use Rattle.cl_front.specs.Sessions.{session_in, is_awaited}
use Rattle.cl_front.proofs.Turns.{taken-outstanding, taken-empty, taken-turn, next-outstanding}
use Rattle.cl_lines.specs.Line.{line_of}
use Rattle.cl_lines.specs.declared.line.Line.{Line}
use Rattle.cl_lines.specs.declared.line.Line.TheVariants.{Client, Operator}
use Rattle.cl_lines.specs.declared.line.LineFault.{LineFault}
use Rattle.cl_runs.specs.Queues.{QueueEvent, deliver, take_line}
use Rattle.cl_runs.specs.World.{Shape}
use Rattle.cl_serial.specs.Transcript.{fed}
use Rattle.cl_steps.specs.Steps.{nothing_done}
use Rattle.cl_steps.specs.declared.actors.TheConstants.{FRONT}
use Rattle.cl_system.specs.Replicas.{ReplicaWorld, nothing_noted, own_primary, with_way, front_acts, replica_acts, after_first, after_replica_event}
use Rattle.cl_lone.specs.Lone.{lone_step}
use Rattle.cl_types.specs.declared.answers.Outcome.{Outcome}
use Rattle.cl_types.specs.declared.answers.Outcome.TheVariants.{Done, Begun, Committed, Aborted, NotTxn, InTxn, Full}
use Rattle.cl_types.specs.declared.limits.TheConstants.{OPERATIONS_MAX, SESSIONS_MAX}
use Rattle.cl_types.specs.declared.operations.Command.{Command}
use Rattle.cl_types.specs.declared.operations.Command.TheVariants.{Begin, Work, Commit, Abort}
use Rattle.cl_wire.specs.Message as message
use Rattle.cl_wire.specs.Message.{Content}

-- the transaction has as many commands as operations
abbrev pub Fits : Option Current → Type 0
Fits None = Unit {0}
Fits (Some current) = current.operations ≤ current.commands

abbrev pub AreFit : List SessionState → Type 0
AreFit [] = Unit {0}
AreFit (session ∷ sessions) = Fits session.current × AreFit sessions

fit_set : (sessions : List SessionState) (k : ℕ) (session : SessionState) → AreFit sessions → Fits session.current → AreFit (slice_set sessions k session)
fit_set [] k session all one = tt
fit_set (x ∷ sessions) zero session all one = (one, all.1)
fit_set (x ∷ sessions) (suc k) session all one = (all.0, fit_set sessions k session all.1 one)

fit_at : (sessions : List SessionState) (k : ℕ) → AreFit sessions → Fits (slice_index_or sessions k no_session).current
fit_at [] k all = tt
fit_at (x ∷ sessions) zero all = all.0
fit_at (x ∷ sessions) (suc k) all = fit_at sessions k all.1

pub fit_in : (sessions : List SessionState) (s : ℕ) (current : Current) → AreFit sessions → (session_in sessions s).current ≡ Some current → current.operations ≤ current.commands
fit_in sessions s current all is = subst Fits is (fit_at sessions (s - 1) all)

pub fit_first : AreFit new_front.sessions
fit_first = each SESSIONS_MAX
  where
    each : (n : ℕ) → AreFit (replicate n no_session)
    each zero = tt
    each (suc n) = (tt, each n)

-- ---- turns

operation_fits : (current next : Current) (full : Bool) → current.operations ≤ current.commands →
    cond full (Err Full) (Ok (with_command current (current.operations + 1))) ≡ Ok next → next.operations ≤ next.commands
operation_fits current next true fits is = absurd cc
operation_fits current next false fits is =
    let same : with_command current (current.operations + 1) ≡ next = cc in
    subst (λ (c : Current). c.operations ≤ c.commands) same (omega (arith, fits))

next_fits : (current : Option Current) (command : Command) (next : Current) → Fits current → next_current current command ≡ Ok next → next.operations ≤ next.commands
next_fits None Begin next fits is =
    let same : record { operations = 0; commands = 0; outstanding = true } ≡ next = cc in
    subst (λ (c : Current). c.operations ≤ c.commands) same (omega arith)
next_fits None (Work table key op) next fits is = absurd cc
next_fits None Commit next fits is = absurd cc
next_fits None Abort next fits is = absurd cc
next_fits (Some current) Begin next fits is = absurd cc
next_fits (Some current) (Work table key op) next fits is = operation_fits current next (nat_le OPERATIONS_MAX current.operations) fits is
next_fits (Some current) Commit next fits is =
    let same : with_command current current.operations ≡ next = cc in
    subst (λ (c : Current). c.operations ≤ c.commands) same (omega (arith, fits))
next_fits (Some current) Abort next fits is =
    let same : with_command current current.operations ≡ next = cc in
    subst (λ (c : Current). c.operations ≤ c.commands) same (omega (arith, fits))

after_fits : (outcome : Outcome) (current : Option Current) → Fits current → Fits (current_after outcome current)
after_fits (Done reply) None fits = tt
after_fits Begun None fits = tt
after_fits Committed None fits = tt
after_fits (Aborted cause) None fits = tt
after_fits NotTxn None fits = tt
after_fits InTxn None fits = tt
after_fits Full None fits = tt
after_fits (Done reply) (Some current) fits = fits
after_fits Begun (Some current) fits = fits
after_fits Committed (Some current) fits = tt
after_fits (Aborted cause) (Some current) fits = tt
after_fits NotTxn (Some current) fits = fits
after_fits InTxn (Some current) fits = fits
after_fits Full (Some current) fits = fits

module _ (noted : Noted) (s : ℕ) where
  abbrev TurnsFit : Turned → Type 0
  TurnsFit turned = Fits turned.session.current

  fit_turn : (session : SessionState) (command : Command) → TurnsFit (taken noted s session) → Fits session.current → (next : Result Current Outcome) →
      next_current session.current command ≡ next →
      TurnsFit (joined (turned_by noted s session command next) (taken noted s (turned_by noted s session command next).session))
  fit_turn session command rest fits (Ok next) may =
      let turn : Turned = turned_by noted s session command (Ok next) in
      subst (λ turns. TurnsFit (joined turn turns)) (sym (taken-outstanding noted s turn.session (next-outstanding session.current command next may))) (next_fits session.current command next fits may)
  fit_turn session command rest fits (Err outcome) may = rest

  fit_free : (waiting : List Command) (begun : ℕ) (current : Option Current) → is_outstanding_in current ≡ false → Fits current →
      TurnsFit (taken noted s (record { waiting = waiting; begun = begun; current = current }))
  fit_free [] begun current free fits = subst TurnsFit (sym (taken-empty noted s (record { waiting = []; begun = begun; current = current }) refl)) fits
  fit_free (command ∷ rest) begun current free fits =
      let session : SessionState = record { waiting = rest; begun = begun; current = current } in
      subst TurnsFit (sym (taken-turn noted s session command free)) (fit_turn session command (fit_free rest begun current free fits) fits (next_current current command) refl)

  fit_turns : (session : SessionState) → Fits session.current → Fits (taken noted s session).session.current
  fit_turns session fits = by (is_outstanding session) refl
    where
      by : (busy : Bool) → is_outstanding session ≡ busy → TurnsFit (taken noted s session)
      by true busy = subst TurnsFit (sym (taken-outstanding noted s session busy)) fits
      by false free = fit_free session.waiting session.begun session.current free fits

-- ---- the front

line_fit : (noted : Noted) (front : FrontState) (number : ℕ) (reading : Result Line LineFault) → AreFit front.sessions → AreFit (fed_as noted front number reading).state.sessions
line_fit noted front number (Ok (Client s command)) all = fit_set front.sessions (s - 1) _ all (fit_turns noted s (with_waiting (session_in front.sessions s) command) (fit_at front.sessions (s - 1) all))
line_fit noted front number (Ok (Operator order)) all = all
line_fit noted front number (Err fault) all = all

content_fit : (noted : Noted) (front : FrontState) (from : ℕ) (content : Content) (mark : Bool) → AreFit front.sessions →
    AreFit (delivered_front noted front from content mark).state.sessions
content_fit noted front from (message.Outcome txn number outcome) mark all =
    cond_both (is_awaited front.sessions txn number) (stepped front txn.session (heard noted txn.session (session_in front.sessions txn.session) outcome)) (record { state = front; step = nothing_done })
    (λ (done : CoreStep FrontState). AreFit done.state.sessions)
    (λ awaited. fit_set front.sessions (txn.session - 1) _ all (fit_turns noted txn.session (session_after outcome (session_in front.sessions txn.session)) (after_fits outcome _ (fit_at front.sessions (txn.session - 1) all))))
    (λ strange. all)
content_fit noted front from content mark all = all

-- each event leaves it so
pub event_fit : (shape : Shape) (world : ReplicaWorld) (event : QueueEvent) → AreFit world.front.sessions → AreFit (after_replica_event shape world event).front.sessions
unfolding after_replica_event fed_front
event_fit shape world (deliver from to mark) all = by (world.mail from to)
  where
    by : (list : List Content) → AreFit (after_first shape world from to mark list).front.sessions
    by [] = all
    by (content ∷ rest) =
        let off : ReplicaWorld = record world { mail = with_way world.mail from to rest } in
        cond_both (eqb to FRONT) (front_acts off (delivered_front (nothing_noted shape) world.front from content mark)) (replica_acts off to (lone_step own_primary (world.replicas to) from content mark))
        (λ (w : ReplicaWorld). AreFit w.front.sessions) (λ here. content_fit (nothing_noted shape) world.front from content mark all) (λ elsewhere. all)
event_fit shape world (take_line number text said) all = line_fit (nothing_noted shape) (with_entries world.front (fed number text ∷ [])) number (line_of text) all
event_fit shape world other all = all
