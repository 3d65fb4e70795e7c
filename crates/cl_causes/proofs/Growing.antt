-- The transcript of a run grows: no outstanding command is passed over, so the lines of each transaction stay.
use Rattle.std.proofs.Common.{◌≡◌, ℕ, ◌≤◌, false, List, [], ◌∷◌, ◌++◌, length, map, take, drop, Some, None, refl, sym, ap, ◌∙◌, subst, arith}
use Rattle.cl_exchange.specs.Laws.{AreAtStages}
use Rattle.cl_exchange.specs.Stage.{SessionView, Stage, outside, ready, asking, working, telling, IsAt, view_of}
use Rattle.cl_exchange.proofs.Events.{session_between}
use Rattle.cl_front.specs.Session.{SessionState}
use Rattle.cl_front.specs.declared.current.Current.{Current}
use Rattle.cl_runs.specs.World.{Shape}
use Rattle.cl_serial.specs.Exchanges.{Exchange, answered, pair_up, exchanges}
use Rattle.cl_serial.specs.Serial.{StandsAt, IsIn, IsOperation, IsFull, InTransaction, FitsTurn, AnswersFitTurns}
use Rattle.cl_serial.specs.PlainMap.{operations}
use Rattle.cl_serial.specs.Transactions.{Session, session_step, session_after, session_state, is_passed_over, Transaction}
use Rattle.cl_serial.specs.Transcript.{TranscriptEntry, questions, answers}
use Rattle.cl_serial.proofs.Places.{IsIn-append_left}
use Rattle.std.specs.List.{fold}
use Rattle.cl_shown.specs.Laws.{SessionHasOutstanding}
use Rattle.cl_shown.specs.Shown.{with_outstanding}
use Rattle.cl_system.specs.Replicas.{ReplicaWorld}
use Rattle.cl_told.specs.Told.{told_session, pending, IsToldOutstanding, TellsStage, SessionsAreTold}
use Rattle.cl_types.specs.declared.answers.Outcome.{Outcome}
use Rattle.cl_types.specs.declared.answers.Outcome.TheVariants.{Done, Begun, Committed, Aborted, NotTxn, InTxn, Full}
use Rattle.cl_types.specs.declared.limits.TheConstants.{OPERATIONS_MAX}
use Rattle.cl_types.specs.declared.operations.Command.{Command}
use Rattle.cl_types.specs.declared.operations.Command.TheVariants.{Begin, Work, Commit, Abort}
use Rattle.cl_causes.proofs.Sessions.{Line, Begins, commands_at, commands_begin, lines_of}
use Rattle.cl_causes.proofs.Transcripts.{new_questions, new_answers, questions-more, answers-more, left_in, new_pairs, told_more, outstanding_with, IsAnsweredWell, lines_grow, answered_told}
use Rattle.cl_causes.proofs.Claims.{Grows}
use Rattle.cl_types.specs.declared.limits.TheConstants.{SESSIONS_MAX}

-- ---- the exchange of the first new answer

take_pairs : (asked more : List Line) (given new : List (Outcome × ℕ)) → length given ≤ length asked →
    take (length given) (pair_up (asked ++ more) (given ++ new)) ≡ take (length given) (pair_up asked given)
unfolding pair_up
take_pairs asked more [] new few = refl
take_pairs [] more (a ∷ given) new few = absurd (omega arith)
take_pairs (q ∷ asked) more (a ∷ given) new few = ap (λ list. answered q a ∷ list) (take_pairs asked more given new (omega (arith, few)))

first_pair : (asked more rest : List Line) (given others : List (Outcome × ℕ)) (q : Line) (a : Outcome × ℕ) → drop (length given) asked ≡ q ∷ rest →
    StandsAt (pair_up (asked ++ more) (given ++ a ∷ others)) (length given) (answered q a)
unfolding pair_up
first_pair [] more rest [] others q a is = absurd cc
first_pair [] more rest (b ∷ given) others q a is = absurd cc
first_pair (p ∷ asked) more rest [] others q a is = let same : p ≡ q = cc in ap (λ x. Some (answered x a)) same
first_pair (p ∷ asked) more rest (b ∷ given) others q a is = first_pair asked more rest given others q a is

-- ---- the outstanding command is not passed over

-- the session has room for the command
record HasRoom (told : Session) (what : Command) : Type 0 where
  full : InTransaction told IsFull × IsOperation what → ⊥
  inside : InTransaction told (λ _. Unit {0}) × (what ≡ Begin) → ⊥

room_of : (told : Session) (session : SessionState) (current : Current) (what : Command) → current.operations ≤ OPERATIONS_MAX →
    IsToldOutstanding told session current what → HasRoom told what
room_of told session current Begin most is = record {
  full = λ both. both.1;
  inside = λ both. let out = is.0.current in let inside = both.0.1 in absurd cc;
}
room_of told session current (Work table key op) most is = record {
  full = λ both. let here = is.3.current in let there = both.0.1 in let same : is.0 ≡ both.0.0 = cc in
      let count : length (operations both.0.0.commands) ≡ is.1 = ap (λ (t : Transaction). length (operations t.commands)) (sym same) ∙ is.3.count in
      let full = both.0.2 in let number = is.2 in absurd (omega (arith, count, full, number, most));
  inside = λ both. absurd cc;
}
room_of told session current Commit most is = record { full = λ both. both.1; inside = λ both. absurd cc }
room_of told session current Abort most is = record { full = λ both. both.1; inside = λ both. absurd cc }

stays_of : (told : Session) (what : Command) (outcome : Outcome) → HasRoom told what → FitsTurn told what outcome → is_passed_over (Some outcome) ≡ false
stays_of told what (Done reply) room fits = refl
stays_of told what Begun room fits = refl
stays_of told what Committed room fits = refl
stays_of told what (Aborted cause) room fits = refl
stays_of told what NotTxn room fits = refl
stays_of told what InTxn room fits = absurd (room.inside (fits.in_txn.0 refl))
stays_of told what Full room fits = absurd (room.full (fits.full.0 refl))

-- the first command without an answer has room
room_at : (nodes s : ℕ) (view : SessionView) (left : List Command) (told : Session) (what : Command) (rest : List Command) (stage : Stage) →
    IsAt nodes s view stage → TellsStage left told view.session stage →
    left ≡ what ∷ rest → HasRoom told what
room_at nodes s view left told what rest outside at tells is = let none = tells.0 in absurd cc
room_at nodes s view left told what rest (ready current entry) at tells is = let none = tells.0 in absurd cc
room_at nodes s view left told what rest (asking current other entries) at tells is =
    let here = tells.0 in let same : other ≡ what = cc in subst (HasRoom told) same (room_of told view.session current other at.inside.operations tells.1)
room_at nodes s view left told what rest (working current entry) at tells is =
    let here = tells.1 in let same : tells.0 ≡ what = cc in subst (HasRoom told) same (room_of told view.session current tells.0 at.inside.operations tells.2)
room_at nodes s view left told what rest (telling current outcome entries) at tells is =
    let here = tells.1 in let same : tells.0 ≡ what = cc in subst (HasRoom told) same (room_of told view.session current tells.0 at.inside.operations tells.2)

-- ---- a transcript that has grown

module _ (shape : Shape) (world : ReplicaWorld) (stages : AreAtStages shape world) (told : SessionsAreTold shape world) (outstanding : SessionHasOutstanding) (more : List TranscriptEntry)
    (fit : AnswersFitTurns (world.front.transcript ++ more)) (few : (s : ℕ) → length (answers s (world.front.transcript ++ more)) ≤ length (questions s (world.front.transcript ++ more))) where
  abbrev old : List TranscriptEntry
  old = world.front.transcript

  module _ (s : ℕ) (one : 1 ≤ s) (most : s ≤ SESSIONS_MAX) where
    few_old : length (answers s old) ≤ length (questions s old)
    few_old = (told s one most).few

    fits : (q : Line) (rest : List Line) (a : Outcome × ℕ) (others : List (Outcome × ℕ)) → left_in s old ≡ q ∷ rest → new_answers s old more ≡ a ∷ others →
        FitsTurn (told_session s old) q.0 a.0
    fits q rest a others left new =
        let asked : questions s (old ++ more) ≡ questions s old ++ new_questions s old more = questions-more s old more in
        let given : answers s (old ++ more) ≡ answers s old ++ a ∷ others = answers-more s old more ∙ ap (λ list. answers s old ++ list) new in
        let pairs : exchanges s (old ++ more) ≡ pair_up (questions s old ++ new_questions s old more) (answers s old ++ a ∷ others)
        = ap (λ list. pair_up list (answers s (old ++ more))) asked ∙ ap (pair_up (questions s old ++ new_questions s old more)) given in
        subst (λ list. FitsTurn (session_after list) q.0 a.0)
        (ap (take (length (answers s old))) pairs ∙ take_pairs (questions s old) (new_questions s old more) (answers s old) (a ∷ others) few_old)
        (fit s (length (answers s old)) (answered q a) a.0
        (subst (λ list. StandsAt list (length (answers s old)) (answered q a)) (sym pairs) (first_pair (questions s old) (new_questions s old more) rest (answers s old) others q a left)) refl)

    well : IsAnsweredWell (left_in s old) (new_answers s old more)
    well q rest a others left new =
        let stage = stages s one most in
        let tells = (told s one most).tells stage.0 stage.1 in
        stays_of (told_session s old) q.0 a.0
        (room_at shape.nodes s (view_of shape.nodes world s) (pending s old) (told_session s old) q.0 (map (λ (question : Line). question.0) rest) stage.0 stage.1 tells (ap (map (λ (question : Line). question.0)) left))
        (fits q rest a others left new)

    state_old : session_state s old ≡ with_outstanding s old
    state_old = outstanding s old few_old

    state_new : session_state s (old ++ more) ≡ with_outstanding s (old ++ more)
    state_new = outstanding s (old ++ more) (few s)

    lines_here : (n : ℕ) → Begins (lines_of (commands_at (session_state s (old ++ more)) n)) (lines_of (commands_at (session_state s old) n))
    lines_here n =
        subst (λ state. Begins (lines_of (commands_at state n)) (lines_of (commands_at (session_state s old) n))) (sym state_new)
        (subst (λ state. Begins (lines_of (commands_at (with_outstanding s (old ++ more)) n)) (lines_of (commands_at state n))) (sym state_old)
        (lines_grow s old more n few_old well))

    kept_here : (n : ℕ) (e : Exchange) (answer : Outcome × ℕ) → IsIn (commands_at (session_state s old) n) e → e.answer ≡ Some answer → IsIn (commands_at (session_state s (old ++ more)) n) e
    kept_here n e answer h is =
        let told_there : IsIn (commands_at (told_session s old) n) e = answered_told s old n e answer (subst (λ state. IsIn (commands_at state n) e) state_old h) is in
        let pairs : List Exchange = new_pairs s old more few_old in
        let last : List Exchange = map (λ question. record { command = question.0; line = question.1; answer = None }) (take 1 (left_in s (old ++ more))) in
        let first = commands_begin pairs (told_session s old) n in
        let second = commands_begin last (fold session_step (told_session s old) pairs) n in
        let there : IsIn (commands_at (fold session_step (fold session_step (told_session s old) pairs) last) n) e =
        subst (λ list. IsIn list e) (sym second.is) (IsIn-append_left _ second.rest e (subst (λ list. IsIn list e) (sym first.is) (IsIn-append_left _ first.rest e told_there))) in
        subst (λ state. IsIn (commands_at state n) e) (sym state_new)
        (subst (λ session. IsIn (commands_at (outstanding_with session (left_in s (old ++ more))) n) e) (sym (told_more s old more few_old)) there)

  pub grows : Grows old (old ++ more)
  grows = record {
    more = more;
    is = refl;
    lines = λ name of. let between = session_between name of in lines_here name.session between.0 between.1 name.number;
    kept = λ name of e answer h is. let between = session_between name of in kept_here name.session between.0 between.1 name.number e answer h is;
  }
