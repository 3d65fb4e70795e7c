-- The front gives a session its turns, or tells it an outcome: what is printed stays well shown.
use Rattle.std.proofs.Common.{◌≡◌, ℕ, ◌≤◌, true, false, List, [], ◌∷◌, ◌++◌, length, map, Option, Some, Result, Ok, Err, refl, sym, ap, ◌∙◌, subst, append_assoc}
use Rattle.std.proofs.lemmas.Bool.{true≢false}
use Rattle.std.proofs.lemmas.List.{append-nil}
use Rattle.cl_actor.specs.Core.{Noted}
use Rattle.cl_exchange.specs.Stage.{SessionView, Stage, outside, ready, asking, working, telling, IsAt, IsInTransaction}
use Rattle.cl_front.proofs.Turns.{taken-outstanding, taken-empty, taken-turn, next-outstanding}
use Rattle.cl_front.specs.declared.current.Current.{Current}
use Rattle.cl_front.specs.Session.{SessionState, is_outstanding, is_outstanding_in, Turned, joined, turned_by, next_current, taken, current_after, heard, session_after}
use Rattle.cl_lines.specs.declared.out.Out.{Out}
use Rattle.cl_lines.specs.declared.out.Out.TheVariants.{Answer}
use Rattle.cl_serial.specs.Exchanges.{answered}
use Rattle.cl_serial.specs.Transactions.{Session, session_step}
use Rattle.cl_serial.specs.Transcript.{TranscriptEntry, written}
use Rattle.cl_shown.proofs.Entries.{IsWell, well_answer}
use Rattle.cl_shown.proofs.Fitting.{HasAtMost, at_once_fits, outcome_fits}
use Rattle.cl_told.specs.Told.{TellsStage, IsToldOutstanding, IsOutcomeOf}
use Rattle.cl_told.proofs.Shown.{Shows, shows-answer}
use Rattle.cl_told.proofs.Turning.{IsFree, free_still, passed, after_free, answered_told}
use Rattle.cl_types.specs.declared.answers.Outcome.{Outcome}
use Rattle.cl_types.specs.declared.answers.Outcome.TheVariants.{Done, Begun, Committed, Aborted, NotTxn, InTxn, Full}
use Rattle.cl_types.specs.declared.limits.TheConstants.{OPERATIONS_MAX}
use Rattle.cl_types.specs.declared.operations.Command.{Command}

-- ---- turns

-- what is printed behind a transcript
abbrev pub printed_on : List TranscriptEntry → List Out → List TranscriptEntry
printed_on transcript outs = transcript ++ map written outs

-- one answer first
well_first : (transcript : List TranscriptEntry) (out : Out) (outs : List Out) → IsWell (printed_on (transcript ++ written out ∷ []) outs) →
    IsWell (printed_on transcript (out ∷ outs))
well_first transcript out outs well = subst IsWell (append_assoc transcript (written out ∷ []) (map written outs)) well

module _ (noted : Noted) (s : ℕ) where
  -- the turn of the first command that waits, and then the others
  first_turn : (session : SessionState) (command : Command) (transcript : List TranscriptEntry) (told : Session) →
      Shows s transcript (command ∷ session.waiting) told → IsFree told session session.current →
      HasAtMost session.current → IsWell transcript →
      ((more : List TranscriptEntry) → Shows s more session.waiting told → IsWell more → IsWell (printed_on more (taken noted s session).outs)) →
      (next : Result Current Outcome) → next_current session.current command ≡ next →
      IsWell (printed_on transcript (joined (turned_by noted s session command next) (taken noted s (turned_by noted s session command next).session)).outs)
  first_turn session command transcript told shows free most well rest (Ok next) may =
      let turn : Turned = turned_by noted s session command (Ok next) in
      subst (λ (turns : Turned). IsWell (printed_on transcript (joined turn turns).outs))
      (sym (taken-outstanding noted s turn.session (next-outstanding session.current command next may)))
      (subst IsWell (sym (append-nil transcript)) well)
  first_turn session command transcript told shows free most well rest (Err outcome) may =
      let answer = shows-answer s transcript command outcome session.waiting told shows in
      let longer : List TranscriptEntry = transcript ++ written (Answer s outcome) ∷ [] in
      well_first transcript (Answer s outcome) (taken noted s session).outs
      (rest longer (subst (Shows s longer session.waiting) (passed told session answer.line (length transcript) session.current command outcome may free) answer.shows)
      (well_answer s transcript command outcome session.waiting told shows (at_once_fits told session session.current command outcome may free most) well))

  -- the turns of a session that has no command outstanding
  pub turns_well : (waiting : List Command) (begun : ℕ) (current : Option Current) (transcript : List TranscriptEntry) (told : Session) →
      is_outstanding_in current ≡ false → Shows s transcript waiting told →
      IsFree told (record { waiting = waiting; begun = begun; current = current }) current → HasAtMost current → IsWell transcript →
      IsWell (printed_on transcript (taken noted s (record { waiting = waiting; begun = begun; current = current })).outs)
  turns_well [] begun current transcript told idle shows free most well =
      subst (λ (turns : Turned). IsWell (printed_on transcript turns.outs))
      (sym (taken-empty noted s (record { waiting = []; begun = begun; current = current }) refl)) (subst IsWell (sym (append-nil transcript)) well)
  turns_well (command ∷ rest) begun current transcript told idle shows free most well =
      let session : SessionState = record { waiting = rest; begun = begun; current = current } in
      let still : IsFree told session current = free_still told
      (record { waiting = command ∷ rest; begun = begun; current = current }) session refl current free in
      subst (λ (turns : Turned). IsWell (printed_on transcript turns.outs)) (sym (taken-turn noted s session command idle))
      (first_turn session command transcript told shows still most well
      (λ more shown it. turns_well rest begun current more told idle shown still most it) (next_current current command) refl)

  -- ---- an outcome

  after_most : (outcome : Outcome) (current : Current) → current.operations ≤ OPERATIONS_MAX → HasAtMost (current_after outcome (Some current))
  after_most Committed current most = tt
  after_most (Aborted cause) current most = tt
  after_most (Done reply) current most = most
  after_most Begun current most = most
  after_most NotTxn current most = most
  after_most InTxn current most = most
  after_most Full current most = most

  -- a session hears the outcome of its first command without one
  pub heard_well : (session : SessionState) (current : Current) (what : Command) (outcome : Outcome) (transcript : List TranscriptEntry) (told : Session) →
      session.current ≡ Some current →
      Shows s transcript (what ∷ session.waiting) told → IsToldOutstanding told session current what → IsOutcomeOf what outcome →
      current.operations ≤ OPERATIONS_MAX → IsWell transcript →
      IsWell (printed_on transcript (heard noted s session outcome).outs)
  heard_well session current what outcome transcript told inside shows is fits most well =
      let answer = shows-answer s transcript what outcome session.waiting told shows in
      let after : SessionState = session_after outcome session in
      let now : Session = session_step told (answered (what, answer.line) (outcome, length transcript)) in
      well_first transcript (Answer s outcome) (taken noted s after).outs
      (turns_well session.waiting session.begun (current_after outcome session.current) (transcript ++ written (Answer s outcome) ∷ []) now
      (after_free outcome session.current) answer.shows
      (subst (λ c. IsFree now after (current_after outcome c)) (sym inside)
      (answered_told told session after current refl answer.line (length transcript) what outcome fits is))
      (subst (λ c. HasAtMost (current_after outcome c)) (sym inside) (after_most outcome current most))
      (well_answer s transcript what outcome session.waiting told shows (outcome_fits told session current what outcome fits is most) well))

-- ---- a session without an outstanding command, by its stage

-- no command is without an answer, and the transcript shows the session as it is
pub record IsIdle (view : SessionView) (left : List Command) (told : Session) : Type 0 where
  pub none_left : left ≡ []
  pub free : IsFree told view.session view.session.current
  pub most : HasAtMost view.session.current

module _ (nodes s : ℕ) (view : SessionView) (left : List Command) (told : Session) where
  not_outstanding : (current : Current) → is_outstanding view.session ≡ false → IsInTransaction view current true → ⊥
  not_outstanding current idle inside = true≢false (sym inside.waits ∙ (sym (ap is_outstanding_in inside.inside) ∙ idle))

  pub idle_at : (stage : Stage) → IsAt nodes s view stage → TellsStage left told view.session stage → is_outstanding view.session ≡ false →
      IsIdle view left told
  idle_at outside at tells idle = record {
    none_left = tells.0;
    free = subst (IsFree told view.session) (sym at.0) tells.1;
    most = subst HasAtMost (sym at.0) tt;
  }
  idle_at (ready current entry) at tells idle = record {
    none_left = tells.0;
    free = subst (IsFree told view.session) (sym at.inside.inside) tells.1;
    most = subst HasAtMost (sym at.inside.inside) at.inside.operations;
  }
  idle_at (asking current what entries) at tells idle = absurd (not_outstanding current idle at.inside)
  idle_at (working current entry) at tells idle = absurd (not_outstanding current idle at.inside)
  idle_at (telling current outcome entries) at tells idle = absurd (not_outstanding current idle at.inside)
