-- The outstanding command of a session in a transaction: the last line of its transaction, and its reply.
use Rattle.std.proofs.Common.{◌≡◌, ℕ, zero, suc, ◌+◌, ◌<◌, ◌≤◌, nat_eq, true, false, List, [], ◌∷◌, ◌++◌, length, map, take, drop, Some, None, Option, refl, sym, ap, ◌∙◌, subst, arith, inl, inr}
use Rattle.std.specs.List.{fold}
use Rattle.std.proofs.lemmas.Bool.{cond-true, eq-eqb}
use Rattle.std.proofs.lemmas.List.{append-nil, map-append}
use Rattle.cl_lines.specs.declared.out.Out.TheVariants as out
use Rattle.cl_serial.specs.Exchanges.{Exchange, unanswered, answered, pair_up, exchanges, in_turn, after_answer}
use Rattle.cl_serial.specs.PlainMap.{operations}
use Rattle.cl_serial.specs.Serial.{StandsAt, IsIn}
use Rattle.cl_serial.specs.Transactions.{Transaction, Session, session_step, new_session, commands_of, commands_in, numbered, with_command, is_end, is_passed_over}
use Rattle.cl_serial.specs.Transcript.{TranscriptEntry, written, gather, answered_in, questions, answers}
use Rattle.cl_serial.proofs.Places.{StandsAt-push_last, IsIn-append_left, IsIn-push_last, IsIn-nil}
use Rattle.cl_shown.specs.Laws.{SessionHasOutstanding}
use Rattle.cl_told.specs.Told.{told_session}
use Rattle.cl_types.specs.declared.answers.Outcome.{Outcome}
use Rattle.cl_types.specs.declared.operations.Command.{Command as ClientCommand}
use Rattle.cl_types.specs.declared.operations.TxnId.{TxnId}
use Rattle.cl_causes.proofs.Sessions.{Line, commands_at, commands_begin, commands_found, line_of, lines_of, works, is_operation, work_last, works_count_more}
use Rattle.cl_causes.proofs.Transcripts.{question_within, new_questions, new_answers, left_in, paired, new_pairs, told_more, outstanding_with}
use Rattle.cl_causes.proofs.Claims.{lines_in}

-- ---- lists

pub first_left : (left : List Line) (command : ClientCommand) (rest : List ClientCommand) → map (λ (question : Line). question.0) left ≡ command ∷ rest →
    (line : ℕ) × (others : List Line) × (left ≡ (command, line) ∷ others)
first_left [] command rest is = absurd cc
first_left (q ∷ left) command rest is = let same : q.0 ≡ command = cc in (q.1, left, ap (λ c. (c, q.1) ∷ left) same)

dropped_in : (n : ℕ) (asked others : List Line) (q : Line) → drop n asked ≡ q ∷ others → IsIn asked q
dropped_in zero [] others q is = absurd cc
dropped_in zero (p ∷ asked) others q is = let same : p ≡ q = cc in (0, ap Some same)
dropped_in (suc n) [] others q is = absurd cc
dropped_in (suc n) (p ∷ asked) others q is = let there = dropped_in n asked others q is in (suc there.0, there.1)

-- the transaction of the next number is the last one
last_numbered : (ended : List Transaction) (transaction : Transaction) (n : ℕ) → n ≡ length ended + 1 → commands_in (numbered (ended ++ transaction ∷ []) n) ≡ transaction.commands
last_numbered ended transaction n is =
    let next : n ≡ suc (length ended) = is ∙ omega arith in
    ap (λ k. commands_in (numbered (ended ++ transaction ∷ []) k)) next ∙ ap commands_in (StandsAt-push_last ended transaction)

-- ---- each line of a transaction stands in the transcript

in_turn_in : (xs : List Exchange) (e : Exchange) → IsIn (in_turn xs) e → IsIn xs e
unfolding in_turn
in_turn_in [] e h = absurd (IsIn-nil e h)
in_turn_in (x ∷ xs) e (zero, h) = (0, h)
in_turn_in (x ∷ xs) e (suc i, h) = by (λ there. in_turn_in xs e there) x.answer h
  where
    by : (IsIn (in_turn xs) e → IsIn xs e) → (answer : Option (Outcome × ℕ)) → StandsAt (after_answer answer (in_turn xs)) i e → IsIn (x ∷ xs) e
    by more None k = absurd (IsIn-nil e (i, k))
    by more (Some answer) k = let there = more (i, k) in (suc there.0, there.1)

pair_line : (asked : List Line) (given : List (Outcome × ℕ)) (e : Exchange) → IsIn (pair_up asked given) e → IsIn asked (line_of e)
unfolding pair_up
pair_line [] given e h = absurd (IsIn-nil e h)
pair_line (q ∷ asked) [] e (zero, h) = let same : unanswered q ≡ e = cc in (0, ap (λ x. Some (line_of x)) same)
pair_line (q ∷ asked) [] e (suc i, h) = let there = pair_line asked [] e (i, h) in (suc there.0, there.1)
pair_line (q ∷ asked) (a ∷ given) e (zero, h) = let same : answered q a ≡ e = cc in (0, ap (λ x. Some (line_of x)) same)
pair_line (q ∷ asked) (a ∷ given) e (suc i, h) = let there = pair_line asked given e (i, h) in (suc there.0, there.1)

none_new : (n : ℕ) → commands_at new_session n ≡ []
none_new zero = refl
none_new (suc n) = refl

pub line_within : (transcript : List TranscriptEntry) (name : TxnId) (e : Exchange) → IsIn (commands_of transcript name) e → e.line < length transcript
line_within transcript name e h = elim (commands_found (in_turn (exchanges name.session transcript)) new_session name.number e h) [
  | inl old ↦ absurd (IsIn-nil e (subst (λ list. IsIn list e) (none_new name.number) old))
  | inr there ↦ question_within name.session transcript (line_of e)
      (pair_line (questions name.session transcript) (answers name.session transcript) e (in_turn_in (exchanges name.session transcript) e there))
]

-- ---- the outstanding command

-- the command of this line is the first without an answer, in this transaction
pub record IsOutstanding (transcript : List TranscriptEntry) (name : TxnId) (q : Line) (transaction : Transaction) : Type 0 where
  pub others : List Line
  pub left : left_in name.session transcript ≡ q ∷ others
  pub current : (told_session name.session transcript).current ≡ Some transaction
  pub number : name.number ≡ length (told_session name.session transcript).ended + 1
  pub few : length (answers name.session transcript) ≤ length (questions name.session transcript)

step_asked : (ended : List Transaction) (current : Option Transaction) (transaction : Transaction) (q : Line) (n : ℕ) → current ≡ Some transaction → n ≡ length ended + 1 →
    commands_at (session_step (record { ended = ended; current = current }) (unanswered q)) n ≡ transaction.commands ++ unanswered q ∷ []
unfolding session_step
step_asked ended None transaction q n is number = absurd cc
step_asked ended (Some current) transaction q n is number =
    let same : current ≡ transaction = cc in
    last_numbered ended (with_command current (unanswered q)) n number ∙ ap (λ (t : Transaction). t.commands ++ unanswered q ∷ []) same

step_replied : (ended : List Transaction) (current : Option Transaction) (transaction : Transaction) (q : Line) (a : Outcome × ℕ) (n : ℕ) →
    current ≡ Some transaction → n ≡ length ended + 1 →
    is_passed_over (Some a.0) ≡ false → is_end (Some a.0) ≡ true →
    commands_at (session_step (record { ended = ended; current = current }) (answered q a)) n ≡ transaction.commands ++ answered q a ∷ []
unfolding session_step
step_replied ended None transaction q a n is number stays ends = absurd cc
step_replied ended (Some current) transaction q a n is number stays ends =
    let same : current ≡ transaction = cc in
    rw (stays, ends)
    (ap (λ list. commands_in (numbered list n)) (append-nil (ended ++ with_command current (answered q a) ∷ []))
    ∙ (last_numbered ended (with_command current (answered q a)) n number ∙ ap (λ (t : Transaction). t.commands ++ answered q a ∷ []) same))

module _ (outstanding : SessionHasOutstanding) (transcript : List TranscriptEntry) (name : TxnId) (q : Line) (transaction : Transaction) (is : IsOutstanding transcript name q transaction) where
  -- it is the last line of its transaction
  lines_are : lines_in transcript name ≡ lines_of transaction.commands ++ q ∷ []
  lines_are =
      ap (λ session. lines_of (commands_at session name.number)) (outstanding name.session transcript is.few)
      ∙ (ap (λ left. lines_of (commands_at (outstanding_with (told_session name.session transcript) left) name.number)) is.left
      ∙ (ap lines_of (step_asked (told_session name.session transcript).ended (told_session name.session transcript).current transaction q name.number is.current is.number)
      ∙ map-append line_of transaction.commands (unanswered q ∷ [])))

  pub stands_last : is_operation q.0 ≡ true → StandsAt (works (lines_in transcript name)) (length (operations transaction.commands)) q
  stands_last works_it = subst (λ lines. StandsAt (works lines) (length (operations transaction.commands)) q) (sym lines_are) (work_last transaction.commands q.0 q.1 works_it)

  pub works_length : is_operation q.0 ≡ true → length (works (lines_in transcript name)) ≡ length (operations transaction.commands) + 1
  works_length works_it = ap (λ lines. length (works lines)) lines_are ∙ works_count_more transaction.commands q.0 q.1 works_it

  pub outstanding_within : q.1 < length transcript
  outstanding_within = question_within name.session transcript q (dropped_in (length (answers name.session transcript)) (questions name.session transcript) is.others q is.left)

  -- its reply, which ends the transaction
  pub reply_is_in : (outcome : Outcome) (more : List TranscriptEntry) → is_passed_over (Some outcome) ≡ false → is_end (Some outcome) ≡ true →
      length (answers name.session (transcript ++ written (out.Answer name.session outcome) ∷ more)) ≤ length (questions name.session (transcript ++ written (out.Answer name.session outcome) ∷ more)) →
      IsIn (commands_of (transcript ++ written (out.Answer name.session outcome) ∷ more) name) (answered q (outcome, length transcript))
  unfolding gather pair_up
  reply_is_in outcome more stays ends few =
      let s : ℕ = name.session in
      let told : Session = told_session s transcript in
      let after : List TranscriptEntry = written (out.Answer s outcome) ∷ more in
      let a : Outcome × ℕ = (outcome, length transcript) in
      let new : List (Outcome × ℕ) = gather (answered_in s) (suc (length transcript)) more in
      let given : new_answers s transcript after ≡ a ∷ new = ap (λ list. list ++ new) (cond-true (nat_eq s s) (a ∷ []) [] (eq-eqb s s refl)) in
      let pairs : new_pairs s transcript after is.few ≡ answered q a ∷ paired (is.others ++ new_questions s transcript after) new
      = ap (λ left. paired (left ++ new_questions s transcript after) (new_answers s transcript after)) is.left ∙ ap (λ list. paired (q ∷ is.others ++ new_questions s transcript after) list) given in
      let more_pairs : List Exchange = paired (is.others ++ new_questions s transcript after) new in
      let last : List Exchange = map unanswered (take 1 (left_in s (transcript ++ after))) in
      let here : IsIn (commands_at (session_step told (answered q a)) name.number) (answered q a)
      = subst (λ list. IsIn list (answered q a)) (sym (step_replied told.ended told.current transaction q a name.number is.current is.number stays ends)) (IsIn-push_last transaction.commands (answered q a)) in
      let first = commands_begin more_pairs (session_step told (answered q a)) name.number in
      let second = commands_begin last (fold session_step (session_step told (answered q a)) more_pairs) name.number in
      let there : IsIn (commands_at (outstanding_with (fold session_step (session_step told (answered q a)) more_pairs) (left_in s (transcript ++ after))) name.number) (answered q a)
      = subst (λ list. IsIn list (answered q a)) (sym second.is) (IsIn-append_left _ second.rest _ (subst (λ list. IsIn list (answered q a)) (sym first.is) (IsIn-append_left _ first.rest _ here))) in
      subst (λ session. IsIn (commands_at session name.number) (answered q a)) (sym (outstanding s (transcript ++ after) few))
      (subst (λ session. IsIn (commands_at (outstanding_with session (left_in s (transcript ++ after))) name.number) (answered q a))
      (sym (told_more s transcript after is.few ∙ ap (fold session_step told) pairs)) there)
