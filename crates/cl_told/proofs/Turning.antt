-- The turns of a session, and an outcome that it hears: the transcript shows what they leave.
use Rattle.std.proofs.Common.{◌≡◌, ℕ, ◌+◌, nat_le, Bool, true, false, cond, List, [], ◌∷◌, ◌++◌, length, map, Option, Some, None, Result, Ok, Err, refl, sym, ap, ◌∙◌, subst, append_assoc}
use Rattle.std.proofs.lemmas.List.{append-nil, length-append, map-append}
use Rattle.std.proofs.lemmas.Grind.{flat_map-append}
use Rattle.cl_actor.specs.Core.{Noted}
use Rattle.cl_front.proofs.Turns.{taken-outstanding, taken-empty, taken-turn, next-outstanding}
use Rattle.cl_front.specs.declared.current.Current.{Current}
use Rattle.cl_front.specs.Session.{SessionState, is_outstanding, is_outstanding_in, Turned, joined, turned_by, next_current, with_command as with_outstanding, begun_after, command_sent, taken, current_after, heard, session_after as session_after_outcome}
use Rattle.cl_lines.specs.declared.out.Out.TheVariants.{Answer}
use Rattle.cl_serial.specs.Exchanges.{Exchange, answered}
use Rattle.cl_serial.specs.PlainMap.{operations, operation_in}
use Rattle.cl_serial.specs.Transactions.{Session, Transaction, session_step, step_outside, step_inside, with_command}
use Rattle.cl_serial.specs.Transcript.{TranscriptEntry, written}
use Rattle.cl_told.specs.Told.{IsInside, IsOutside, IsToldOutstanding, IsOutcomeOf}
use Rattle.cl_told.proofs.Shown.{Shows, shows-answer}
use Rattle.cl_types.specs.declared.answers.AbortCause.TheVariants.{Conflict, Client, Memory}
use Rattle.cl_types.specs.declared.answers.Outcome.{Outcome}
use Rattle.cl_types.specs.declared.answers.Outcome.TheVariants.{Done, Begun, Committed, Aborted, NotTxn, InTxn, Full}
use Rattle.cl_types.specs.declared.limits.TheConstants.{OPERATIONS_MAX}
use Rattle.cl_types.specs.declared.operations.Command.{Command}
use Rattle.cl_types.specs.declared.operations.Command.TheVariants.{Begin, Work, Commit, Abort}

-- ---- the session by its begun transactions

-- a session without an outstanding command, as the transcript shows it
abbrev pub IsFree : Session → SessionState → Option Current → Type 0
IsFree told session None = IsOutside told session (length told.ended)
IsFree told session (Some current) = (transaction : Transaction) × IsInside told session transaction current.operations

module _ (told : Session) (session other : SessionState) (same : other.begun ≡ session.begun) where
  inside_still : (transaction : Transaction) (n : ℕ) → IsInside told session transaction n → IsInside told other transaction n
  inside_still transaction n is = record { current = is.current; begun = same ∙ is.begun; count = is.count }

  outside_still : (n : ℕ) → IsOutside told session n → IsOutside told other n
  outside_still n is = record { current = is.current; number = same ∙ is.number }

  pub free_still : (current : Option Current) → IsFree told session current → IsFree told other current
  free_still None is = outside_still (length told.ended) is
  free_still (Some current) is = (is.0, inside_still is.0 current.operations is.1)

  pub outstanding_still : (current : Current) (what : Command) → IsToldOutstanding told session current what → IsToldOutstanding told other current what
  outstanding_still current Begin is = (outside_still (length told.ended + 1) is.0, is.1)
  outstanding_still current (Work table key op) is = (is.0, is.1, is.2, inside_still is.0 is.1 is.3)
  outstanding_still current Commit is = (is.0, inside_still is.0 current.operations is.1)
  outstanding_still current Abort is = (is.0, inside_still is.0 current.operations is.1)

-- ---- one exchange more

module _ (told : Session) (exchange : Exchange) where
  step_none : told.current ≡ None → session_step told exchange ≡ step_outside told.ended exchange
  unfolding session_step
  step_none is = ap (λ current. session_step (record { ended = told.ended; current = current }) exchange) is

  step_some : (transaction : Transaction) → told.current ≡ Some transaction → session_step told exchange ≡ step_inside told.ended transaction exchange
  unfolding session_step
  step_some transaction is = ap (λ current. session_step (record { ended = told.ended; current = current }) exchange) is

pub same_session : (told : Session) (current : Option Transaction) → told.current ≡ current → record { ended = told.ended; current = current } ≡ told
same_session told current is = λ i. record { ended = told.ended; current = sym is i }

-- a command that is answered at once is passed over
module _ (told : Session) (session : SessionState) (line at : ℕ) where
  passed_outside : (command : Command) (outcome : Outcome) → next_current None command ≡ Err outcome → told.current ≡ None → session_step told (answered (command, line) (outcome, at)) ≡ told
  passed_outside Begin outcome is none = absurd cc
  passed_outside (Work table key op) outcome is none = step_none told (answered (Work table key op, line) (outcome, at)) none ∙ same_session told None none
  passed_outside Commit outcome is none = step_none told (answered (Commit, line) (outcome, at)) none ∙ same_session told None none
  passed_outside Abort outcome is none = step_none told (answered (Abort, line) (outcome, at)) none ∙ same_session told None none

  passed_full : (command : Command) (current : Current) (outcome : Outcome) (transaction : Transaction) → told.current ≡ Some transaction → (full : Bool) →
      cond full (Err Full) (Ok (with_outstanding current (current.operations + 1))) ≡ Err outcome → session_step told (answered (command, line) (outcome, at)) ≡ told
  passed_full command current outcome transaction some true is =
      let full : Full ≡ outcome = cc in
      subst (λ o. session_step told (answered (command, line) (o, at)) ≡ told) full (step_some told (answered (command, line) (Full, at)) transaction some ∙ same_session told (Some transaction) some)
  passed_full command current outcome transaction some false is = absurd cc

  passed_inside : (command : Command) (current : Current) (outcome : Outcome) (transaction : Transaction) → next_current (Some current) command ≡ Err outcome → told.current ≡ Some transaction →
      session_step told (answered (command, line) (outcome, at)) ≡ told
  passed_inside Begin current outcome transaction is some =
      let inside : InTxn ≡ outcome = cc in
      subst (λ o. session_step told (answered (Begin, line) (o, at)) ≡ told) inside (step_some told (answered (Begin, line) (InTxn, at)) transaction some ∙ same_session told (Some transaction) some)
  passed_inside (Work table key op) current outcome transaction is some = passed_full (Work table key op) current outcome transaction some (nat_le OPERATIONS_MAX current.operations) is
  passed_inside Commit current outcome transaction is some = absurd cc
  passed_inside Abort current outcome transaction is some = absurd cc

  pub passed : (current : Option Current) (command : Command) (outcome : Outcome) → next_current current command ≡ Err outcome → IsFree told session current → session_step told (answered (command, line) (outcome, at)) ≡ told
  passed None command outcome is free = passed_outside command outcome is free.current
  passed (Some current) command outcome is free = passed_inside command current outcome free.0 is free.1.current

-- ---- a command that is sent

module _ (told : Session) (session other : SessionState) (next : Current) where
  sent_full : (current : Current) (full : Bool) → cond full (Err Full) (Ok (with_outstanding current (current.operations + 1))) ≡ Ok next → next.operations ≡ current.operations + 1
  sent_full current true is = absurd cc
  sent_full current false is = cc

  sent_told : (current : Option Current) (command : Command) → next_current current command ≡ Ok next → other.begun ≡ begun_after command session.begun → IsFree told session current → IsToldOutstanding told other next command
  sent_told None Begin is begun free = (record { current = free.current; number = begun ∙ ap (λ n. n + 1) free.number }, cc)
  sent_told None (Work table key op) is begun free = absurd cc
  sent_told None Commit is begun free = absurd cc
  sent_told None Abort is begun free = absurd cc
  sent_told (Some current) Begin is begun free = absurd cc
  sent_told (Some current) (Work table key op) is begun free =
      (free.0, current.operations, sent_full current (nat_le OPERATIONS_MAX current.operations) is, inside_still told session other begun free.0 current.operations free.1)
  sent_told (Some current) Commit is begun free =
      let same : with_outstanding current current.operations ≡ next = cc in
      (free.0, subst (λ (c : Current). IsInside told other free.0 c.operations) same (inside_still told session other begun free.0 current.operations free.1))
  sent_told (Some current) Abort is begun free =
      let same : with_outstanding current current.operations ≡ next = cc in
      (free.0, subst (λ (c : Current). IsInside told other free.0 c.operations) same (inside_still told session other begun free.0 current.operations free.1))

-- ---- the turns

-- nothing is outstanding after the turns, or the command that was sent
pub data AreTold (noted : Noted) (s : ℕ) (left : List Command) (told : Session) (turns : Turned) : Type 0 where
  all_answered : turns.sends ≡ [] → is_outstanding turns.session ≡ false → left ≡ [] → turns.session.waiting ≡ [] → IsFree told turns.session turns.session.current → AreTold noted s left told turns
  one_sent : (command : Command) (next : Current) (number : ℕ) → turns.sends ≡ command_sent noted (record { session = s; number = number }) next.commands command ∷ [] →
      turns.session.current ≡ Some next → next.outstanding ≡ true → left ≡ command ∷ turns.session.waiting → IsToldOutstanding told turns.session next command → AreTold noted s left told turns

-- what the transcript shows after the turns
pub record ShownTurns (noted : Noted) (s : ℕ) (transcript : List TranscriptEntry) (turns : Turned) : Type 0 where
  pub left : List Command
  pub told : Session
  pub shows : Shows s (transcript ++ map written turns.outs) left told
  pub are : AreTold noted s left told turns

-- turns behind one that is printed
joined_told : (noted : Noted) (s : ℕ) (left : List Command) (told : Session) (first rest : Turned) → first.sends ≡ [] → AreTold noted s left told rest → AreTold noted s left told (joined first rest)
joined_told noted s left told first rest none (all_answered sends free left_is waits is) = all_answered (ap (λ list. list ++ rest.sends) none ∙ sends) free left_is waits is
joined_told noted s left told first rest none (one_sent command next number sends current outstanding left_is is) =
    one_sent command next number (ap (λ list. list ++ rest.sends) none ∙ sends) current outstanding left_is is

module _ (noted : Noted) (s : ℕ) where
  -- after what was printed first
  printed_first : (transcript : List TranscriptEntry) (first rest : Turned) (one : TranscriptEntry) → map written first.outs ≡ one ∷ [] → first.sends ≡ [] → ShownTurns noted s (transcript ++ one ∷ []) rest →
      ShownTurns noted s transcript (joined first rest)
  printed_first transcript first rest one is none shown = record {
    left = shown.left;
    told = shown.told;
    shows = subst (λ list. Shows s list shown.left shown.told)
        (append_assoc transcript (one ∷ []) (map written rest.outs)
        ∙ ap (λ list. transcript ++ list) (sym (map-append written first.outs rest.outs ∙ ap (λ list. list ++ map written rest.outs) is))) shown.shows;
    are = joined_told noted s shown.left shown.told first rest none shown.are;
  }

  -- the transcript without an entry more
  pub nothing_more : (transcript : List TranscriptEntry) (left : List Command) (told : Session) → Shows s transcript left told → Shows s (transcript ++ []) left told
  nothing_more transcript left told shows = subst (λ list. Shows s list left told) (sym (append-nil transcript)) shows

  first_turn : (session : SessionState) (command : Command) (transcript : List TranscriptEntry) (told : Session) → Shows s transcript (command ∷ session.waiting) told → IsFree told session session.current →
      ((transcript : List TranscriptEntry) → Shows s transcript session.waiting told → ShownTurns noted s transcript (taken noted s session)) →
      (next : Result Current Outcome) → next_current session.current command ≡ next → ShownTurns noted s transcript (joined (turned_by noted s session command next) (taken noted s (turned_by noted s session command next).session))
  first_turn session command transcript told shows is rest (Ok next) may =
      let turn : Turned = turned_by noted s session command (Ok next) in
      subst (λ turns. ShownTurns noted s transcript (joined turn turns)) (sym (taken-outstanding noted s turn.session (next-outstanding session.current command next may))) (record {
        left = command ∷ session.waiting;
        told = told;
        shows = nothing_more transcript (command ∷ session.waiting) told shows;
        are = one_sent command next (begun_after command session.begun) refl refl (next-outstanding session.current command next may) refl (sent_told told session turn.session next session.current command may refl is);
      })
  first_turn session command transcript told shows is rest (Err outcome) may =
      let answer = shows-answer s transcript command outcome session.waiting told shows in
      printed_first transcript (turned_by noted s session command (Err outcome)) (taken noted s session) (written (Answer s outcome)) refl refl
      (rest (transcript ++ written (Answer s outcome) ∷ [])
      (subst (Shows s (transcript ++ written (Answer s outcome) ∷ []) session.waiting) (passed told session answer.line (length transcript) session.current command outcome may is) answer.shows))

  -- the turns of a session that has no command outstanding
  pub turns_told : (waiting : List Command) (begun : ℕ) (current : Option Current) (transcript : List TranscriptEntry) (told : Session) → is_outstanding_in current ≡ false → Shows s transcript waiting told →
      IsFree told (record { waiting = waiting; begun = begun; current = current }) current → ShownTurns noted s transcript (taken noted s (record { waiting = waiting; begun = begun; current = current }))
  turns_told [] begun current transcript told free shows is =
      subst (ShownTurns noted s transcript) (sym (taken-empty noted s (record { waiting = []; begun = begun; current = current }) refl))
      (record { left = []; told = told; shows = nothing_more transcript [] told shows; are = all_answered refl free refl refl is })
  turns_told (command ∷ rest) begun current transcript told free shows is =
      let session : SessionState = record { waiting = rest; begun = begun; current = current } in
      let still : IsFree told session current = free_still told (record { waiting = command ∷ rest; begun = begun; current = current }) session refl current is in
      subst (ShownTurns noted s transcript) (sym (taken-turn noted s session command free))
      (first_turn session command transcript told shows still (λ more shown. turns_told rest begun current more told free shown still) (next_current current command) refl)

-- ---- an outcome

pub after_free : (outcome : Outcome) (current : Option Current) → is_outstanding_in (current_after outcome current) ≡ false
after_free outcome None = refl
after_free Committed (Some current) = refl
after_free (Aborted cause) (Some current) = refl
after_free (Done reply) (Some current) = refl
after_free Begun (Some current) = refl
after_free NotTxn (Some current) = refl
after_free InTxn (Some current) = refl
after_free Full (Some current) = refl

-- the session after the outcome of its first command without one
module _ (told : Session) (session other : SessionState) (current : Current) (same : other.begun ≡ session.begun) (line at : ℕ) where
  one_ended : (transaction : Transaction) (n : ℕ) (exchange : Exchange) → IsInside told session transaction n →
      IsOutside (record { ended = told.ended ++ with_command transaction exchange ∷ []; current = None }) other (length (told.ended ++ with_command transaction exchange ∷ []))
  one_ended transaction n exchange is =
      record { current = refl; number = same ∙ (is.begun ∙ sym (length-append told.ended (with_command transaction exchange ∷ []))) }

  pub answered_told : (what : Command) (outcome : Outcome) → IsOutcomeOf what outcome → IsToldOutstanding told session current what →
      IsFree (session_step told (answered (what, line) (outcome, at))) other (current_after outcome (Some current))
  answered_told Begin Begun fits is =
      let exchange : Exchange = answered (Begin, line) (Begun, at) in
      let begun : Transaction = record { begin = line; commands = [] } in
      subst (λ now. IsFree now other (Some (record current { outstanding = false }))) (sym (step_none told exchange is.0.current))
      (begun, record { current = refl; begun = same ∙ is.0.number; count = sym is.1 })
  answered_told (Work table key op) (Done reply) fits is =
      let exchange : Exchange = answered (Work table key op, line) (Done reply, at) in
      subst (λ now. IsFree now other (Some (record current { outstanding = false }))) (sym (step_some told exchange is.0 is.3.current)) (
        with_command is.0 exchange,
        record {
          current = refl;
          begun = same ∙ is.3.begun;
          count = ap length (flat_map-append operation_in is.0.commands (exchange ∷ []))
              ∙ (length-append (operations is.0.commands) (operations (exchange ∷ [])) ∙ (ap (λ n. n + 1) is.3.count ∙ sym is.2));
        },
      )
  answered_told (Work table key op) (Aborted (Conflict holder)) fits is =
      let exchange : Exchange = answered (Work table key op, line) (Aborted (Conflict holder), at) in
      subst (λ now. IsFree now other None) (sym (step_some told exchange is.0 is.3.current)) (one_ended is.0 is.1 exchange is.3)
  answered_told (Work table key op) (Aborted Memory) fits is =
      let exchange : Exchange = answered (Work table key op, line) (Aborted Memory, at) in
      subst (λ now. IsFree now other None) (sym (step_some told exchange is.0 is.3.current)) (one_ended is.0 is.1 exchange is.3)
  answered_told Commit Committed fits is =
      let exchange : Exchange = answered (Commit, line) (Committed, at) in
      subst (λ now. IsFree now other None) (sym (step_some told exchange is.0 is.1.current)) (one_ended is.0 current.operations exchange is.1)
  answered_told Abort (Aborted Client) fits is =
      let exchange : Exchange = answered (Abort, line) (Aborted Client, at) in
      subst (λ now. IsFree now other None) (sym (step_some told exchange is.0 is.1.current)) (one_ended is.0 current.operations exchange is.1)
  answered_told what outcome fits is = absurd fits

-- a session hears the outcome of its first command without one
pub heard_told : (noted : Noted) (s : ℕ) (session : SessionState) (current : Current) (what : Command) (outcome : Outcome) (transcript : List TranscriptEntry) (told : Session) → session.current ≡ Some current →
    Shows s transcript (what ∷ session.waiting) told → IsToldOutstanding told session current what → IsOutcomeOf what outcome → ShownTurns noted s transcript (heard noted s session outcome)
heard_told noted s session current what outcome transcript told inside shows is fits =
    let answer = shows-answer s transcript what outcome session.waiting told shows in
    let after : SessionState = session_after_outcome outcome session in
    let now : Session = session_step told (answered (what, answer.line) (outcome, length transcript)) in
    printed_first noted s transcript (record { session = after; outs = Answer s outcome ∷ []; sends = []; spent = false }) (taken noted s after) (written (Answer s outcome)) refl refl
    (turns_told noted s session.waiting session.begun (current_after outcome session.current) (transcript ++ written (Answer s outcome) ∷ []) now (after_free outcome session.current) answer.shows
    (subst (λ c. IsFree now after (current_after outcome c)) (sym inside) (answered_told told session after current refl answer.line (length transcript) what outcome fits is)))
