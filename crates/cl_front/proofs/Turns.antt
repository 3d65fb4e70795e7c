-- The turns of a session, one after another.
use Rattle.std.proofs.Common.{◌≡◌, ℕ, ◌+◌, Bool, true, false, ◌||◌, if◌then◌else◌, List, [], ◌∷◌, ◌++◌, map, fold, Option, Some, None, Result, Ok, Err, refl, sym, ◌∙◌, ap, subst, nat_le, append_assoc, ◌⊎◌, inl, inr}
use Rattle.std.proofs.Math.Bool.{or_assoc}
use Rattle.std.proofs.lemmas.List.{append-nil, map-append}
use Rattle.cl_actor.specs.Core.{Noted}
use Rattle.cl_front.specs.declared.current.Current.{Current}
use Rattle.cl_front.specs.Recorder.{RecorderState}
use Rattle.cl_front.specs.Session.{SessionState, is_outstanding, with_waiting, Turned, unturned, joined, turned, turned_by, next_current, with_command, offered, taken, HasNextNumber}
use Rattle.cl_post.specs.Steps.{IsSpentWhere}
use Rattle.cl_serial.specs.Transcript.{written}
use Rattle.cl_steps.specs.Steps.{Step}
use Rattle.cl_types.specs.declared.answers.Outcome.{Outcome}
use Rattle.cl_types.specs.declared.answers.Outcome.TheVariants.{Full}
use Rattle.cl_types.specs.declared.answers.Refused.{Refused}
use Rattle.cl_types.specs.declared.answers.Refused.TheVariants.{NoMemory, Spent}
use Rattle.cl_types.specs.declared.limits.TheConstants.{OPERATIONS_MAX}
use Rattle.cl_types.specs.declared.operations.Command.{Command}
use Rattle.cl_types.specs.declared.operations.Command.TheVariants.{Begin, Work, Commit, Abort}

or_false : (b : Bool) → (b || false) ≡ b
or_false true = refl
or_false false = refl

-- turns after others, as one
joined-joined : (a b c : Turned) → joined (joined a b) c ≡ joined a (joined b c)
joined-joined a b c = rw (append_assoc a.outs b.outs c.outs, append_assoc a.sends b.sends c.sends, or_assoc a.spent b.spent c.spent)

-- no turn after others
joined-unturned : (a : Turned) (session : SessionState) → joined a (unturned session) ≡ record a { session = session }
joined-unturned a session = rw (append-nil a.outs, append-nil a.sends, or_false a.spent)

-- one command more, after others
offered-joined : (noted : Noted) (s : ℕ) (first next : Turned) (command : Command) →
    offered noted s (joined first next) command ≡ joined first (offered noted s next command)
offered-joined noted s first next command =
    elim (is_outstanding next.session) as (λ busy.
    (if busy then record (joined first next) { session = with_waiting next.session command }
    else joined (joined first next) (turned noted s next.session command))
    ≡ joined first (if busy then record next { session = with_waiting next.session command } else joined next (turned noted s next.session command)))
    [ true ↦ refl | false ↦ joined-joined first next (turned noted s next.session command) ]

-- commands after other turns
fold-joined : (noted : Noted) (s : ℕ) (commands : List Command) (first next : Turned) →
    fold (offered noted s) (joined first next) commands ≡ joined first (fold (offered noted s) next commands)
fold-joined noted s [] first next = refl
fold-joined noted s (command ∷ rest) first next =
    ap (λ so_far. fold (offered noted s) so_far rest) (offered-joined noted s first next command)
    ∙ fold-joined noted s rest first (offered noted s next command)

-- what comes behind an outstanding command waits
fold-outstanding : (noted : Noted) (s : ℕ) (commands : List Command) (so_far : Turned) → is_outstanding so_far.session ≡ true →
    fold (offered noted s) so_far commands ≡ record so_far { session = record so_far.session { waiting = so_far.session.waiting ++ commands } }
fold-outstanding noted s [] so_far outstanding = rw (append-nil so_far.session.waiting)
fold-outstanding noted s (command ∷ rest) so_far outstanding =
    rw outstanding
    (fold-outstanding noted s rest (record so_far { session = with_waiting so_far.session command }) outstanding
    ∙ ap (λ list. record so_far { session = record so_far.session { waiting = list } }) (append_assoc so_far.session.waiting (command ∷ []) rest))

-- no turn is left where a command is outstanding
pub taken-outstanding : (noted : Noted) (s : ℕ) (session : SessionState) → is_outstanding session ≡ true → taken noted s session ≡ unturned session
unfolding taken
taken-outstanding noted s session outstanding = fold-outstanding noted s session.waiting (unturned (record session { waiting = [] })) outstanding

empty : (noted : Noted) (s begun : ℕ) (current : Option Current) (waiting : List Command) → waiting ≡ [] →
    fold (offered noted s) (unturned (record { waiting = []; begun = begun; current = current })) waiting
    ≡ unturned (record { waiting = waiting; begun = begun; current = current })
empty noted s begun current [] e = refl
empty noted s begun current (command ∷ rest) e = absurd cc

-- no turn is left where no command waits
pub taken-empty : (noted : Noted) (s : ℕ) (session : SessionState) → session.waiting ≡ [] → taken noted s session ≡ unturned session
unfolding taken
taken-empty noted s session none = empty noted s session.begun session.current session.waiting none

-- a turn leaves what waits
turned-waiting : (noted : Noted) (s : ℕ) (session : SessionState) (waiting : List Command) (command : Command) (next : Result Current Outcome) →
    turned_by noted s (record session { waiting = waiting }) command next
    ≡ record (turned_by noted s session command next) { session = record (turned_by noted s session command next).session { waiting = waiting } }
turned-waiting noted s session waiting command (Ok current) = refl
turned-waiting noted s session waiting command (Err outcome) = refl

turned-keeps : (noted : Noted) (s : ℕ) (session : SessionState) (command : Command) (next : Result Current Outcome) →
    (turned_by noted s session command next).session.waiting ≡ session.waiting
turned-keeps noted s session command (Ok current) = refl
turned-keeps noted s session command (Err outcome) = refl

-- the turn of the first command that waits, and then the others
pub taken-turn : (noted : Noted) (s : ℕ) (session : SessionState) (command : Command) → is_outstanding session ≡ false →
    taken noted s (record session { waiting = command ∷ session.waiting }) ≡ joined (turned noted s session command) (taken noted s (turned noted s session command).session)
unfolding taken
taken-turn noted s session command free =
    let turn = turned noted s session command in
    let after = unturned (record turn.session { waiting = [] }) in
    rw free
    (ap (λ so_far. fold (offered noted s) so_far session.waiting)
    (turned-waiting noted s session [] command (next_current session.current command)
    ∙ sym (joined-unturned turn (record turn.session { waiting = [] })))
    ∙ fold-joined noted s session.waiting turn after
    ∙ ap (λ list. joined turn (fold (offered noted s) after list)) (sym (turned-keeps noted s session command (next_current session.current command))))

-- turns were taken since the start: those that are left lead to what all lead to
pub record HasTurned (noted : Noted) (s : ℕ) (start : SessionState) (start_recorder : RecorderState) (start_step : Step)
    (now : SessionState) (recorder : RecorderState) (step : Step) : Type 0 where
  pub session : (taken noted s now).session ≡ (taken noted s start).session
  pub printed : recorder.aside ++ map written (taken noted s now).outs ≡ start_recorder.aside ++ map written (taken noted s start).outs
  pub unsettled : recorder.transcript ≡ start_recorder.transcript
  pub sent : record step { sends = step.sends ++ (taken noted s now).sends } ≡ record start_step { sends = start_step.sends ++ (taken noted s start).sends }
  pub spent : (taken noted s now).spent ≡ (taken noted s start).spent
  pub next : is_outstanding now ≡ false → HasNextNumber now.current

-- a command that is sent is outstanding
operation-outstanding : (current next : Current) (full : Bool) →
    (if full then Err Full else Ok (with_command current (current.operations + 1))) ≡ Ok next → next.outstanding ≡ true
operation-outstanding current next true e = absurd cc
operation-outstanding current next false e = cc

pub next-outstanding : (current : Option Current) (command : Command) (next : Current) → next_current current command ≡ Ok next → next.outstanding ≡ true
next-outstanding None Begin next e = cc
next-outstanding None (Work table key op) next e = absurd cc
next-outstanding None Commit next e = absurd cc
next-outstanding None Abort next e = absurd cc
next-outstanding (Some current) Begin next e = absurd cc
next-outstanding (Some current) (Work table key op) next e = operation-outstanding current next (nat_le OPERATIONS_MAX current.operations) e
next-outstanding (Some current) Commit next e = cc
next-outstanding (Some current) Abort next e = cc

-- a turn that leaves no command outstanding leaves the transaction
turned-next : (noted : Noted) (s : ℕ) (session : SessionState) (command : Command) (next : Result Current Outcome) →
    ((sent : Current) → next ≡ Ok sent → sent.outstanding ≡ true) → HasNextNumber session.current →
    is_outstanding (turned_by noted s session command next).session ≡ false → HasNextNumber (turned_by noted s session command next).session.current
turned-next noted s session command (Ok current) busy has free = let e = busy current refl in absurd cc
turned-next noted s session command (Err outcome) busy has free = has

-- what a session does whose first command has its turn
taken-next : (noted : Noted) (s : ℕ) (now next : SessionState) (command : Command) → is_outstanding now ≡ false →
    now ≡ record next { waiting = command ∷ next.waiting } →
    taken noted s now ≡ joined (turned noted s next command) (taken noted s (turned noted s next command).session)
taken-next noted s now next command free first =
    ap (taken noted s) first ∙ taken-turn noted s next command (sym (ap is_outstanding first) ∙ free)

-- one turn more was taken
pub HasTurned-turn : {noted : Noted} {s : ℕ} {start : SessionState} {start_recorder : RecorderState} {start_step : Step}
    {now : SessionState} {recorder : RecorderState} {step : Step} (next after : SessionState) (recorder_after : RecorderState) (step_after : Step) (command : Command) →
    HasTurned noted s start start_recorder start_step now recorder step →
    is_outstanding now ≡ false → now ≡ record next { waiting = command ∷ next.waiting } →
    after ≡ (turned noted s next command).session →
    recorder_after ≡ record recorder { aside = recorder.aside ++ map written (turned noted s next command).outs } →
    step_after ≡ record step { sends = step.sends ++ (turned noted s next command).sends } →
    (turned noted s next command).spent ≡ false →
    HasTurned noted s start start_recorder start_step after recorder_after step_after
HasTurned-turn {noted} {s} {start} {start_recorder} {start_step} {now} {recorder} {step} next after recorder_after step_after command h free first is_after is_recorder is_step unspent =
    let turn = turned noted s next command in
    let rest = taken noted s turn.session in
    let whole = sym (taken-next noted s now next command free first) in
    rw (is_after, is_recorder, is_step) (record {
      session = ap (λ (t : Turned). t.session) whole ∙ h.session;
      printed = append_assoc recorder.aside (map written turn.outs) (map written rest.outs)
          ∙ ap (λ list. recorder.aside ++ list) (sym (map-append written turn.outs rest.outs))
          ∙ ap (λ (t : Turned). recorder.aside ++ map written t.outs) whole ∙ h.printed;
      unsettled = h.unsettled;
      sent = ap (λ list. record step { sends = list }) (append_assoc step.sends turn.sends rest.sends)
          ∙ ap (λ (t : Turned). record step { sends = step.sends ++ t.sends }) whole ∙ h.sent;
      spent = ap (λ b. b || rest.spent) (sym unspent) ∙ ap (λ (t : Turned). t.spent) whole ∙ h.spent;
      next = turned-next noted s next command (next_current next.current command) (next-outstanding next.current command)
          (subst HasNextNumber (ap (λ (session : SessionState). session.current) first) (h.next free));
    })

-- no turn is left: what all lead to is there
pub record IsDone (noted : Noted) (s : ℕ) (start : SessionState) (start_recorder : RecorderState) (start_step : Step)
    (now : SessionState) (recorder : RecorderState) (step : Step) : Type 0 where
  pub session : now ≡ (taken noted s start).session
  pub printed : recorder ≡ record start_recorder { aside = start_recorder.aside ++ map written (taken noted s start).outs }
  pub sent : step ≡ record start_step { sends = start_step.sends ++ (taken noted s start).sends }
  pub spent : (taken noted s start).spent ≡ false

-- it is so where no turn is left
HasTurned-unturned : {noted : Noted} {s : ℕ} {start : SessionState} {start_recorder : RecorderState} {start_step : Step}
    {now : SessionState} {recorder : RecorderState} {step : Step} →
    HasTurned noted s start start_recorder start_step now recorder step → taken noted s now ≡ unturned now →
    IsDone noted s start start_recorder start_step now recorder step
HasTurned-unturned {noted} {s} {start} {start_recorder} {start_step} {now} {recorder} {step} h none = record {
  session = ap (λ (t : Turned). t.session) (sym none) ∙ h.session;
  printed = ap (λ list. record recorder { aside = list }) (sym (append-nil recorder.aside))
      ∙ ap (λ (t : Turned). record recorder { aside = recorder.aside ++ map written t.outs }) (sym none)
      ∙ (cc (h.printed, h.unsettled));
  sent = ap (λ list. record step { sends = list }) (sym (append-nil step.sends))
      ∙ ap (λ (t : Turned). record step { sends = step.sends ++ t.sends }) (sym none) ∙ h.sent;
  spent = sym h.spent ∙ ap (λ (t : Turned). t.spent) none;
}

-- so it is where a command is outstanding, or none waits
pub HasTurned-none : {noted : Noted} {s : ℕ} {start : SessionState} {start_recorder : RecorderState} {start_step : Step}
    {now : SessionState} {recorder : RecorderState} {step : Step} →
    HasTurned noted s start start_recorder start_step now recorder step → (is_outstanding now ≡ true) ⊎ (now.waiting ≡ []) →
    IsDone noted s start start_recorder start_step now recorder step
HasTurned-none {noted} {s} {now} h (inl outstanding) = HasTurned-unturned h (taken-outstanding noted s now outstanding)
HasTurned-none {noted} {s} {now} h (inr none) = HasTurned-unturned h (taken-empty noted s now none)

-- a turn that is spent spends all
pub HasTurned-spent : {noted : Noted} {s : ℕ} {start : SessionState} {start_recorder : RecorderState} {start_step : Step}
    {now : SessionState} {recorder : RecorderState} {step : Step} (next : SessionState) (command : Command) (refused : Refused) →
    HasTurned noted s start start_recorder start_step now recorder step →
    is_outstanding now ≡ false → now ≡ record next { waiting = command ∷ next.waiting } →
    IsSpentWhere {A = Unit {0}} (turned noted s next command).spent (Err refused) → IsSpentWhere {A = Unit {0}} (taken noted s start).spent (Err refused)
HasTurned-spent {noted} {s} {start} {now = now} next command NoMemory h free first spent = tt
HasTurned-spent {noted} {s} {start} {now = now} next command Spent h free first spent =
    sym h.spent ∙ ap (λ (t : Turned). t.spent) (taken-next noted s now next command free first)
    ∙ ap (λ b. b || (taken noted s (turned noted s next command).session).spent) spent
