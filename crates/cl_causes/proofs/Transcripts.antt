-- What a transcript shows of a session, and what it shows once it is longer.
use Rattle.std.proofs.Common.{◌≡◌, ℕ, zero, suc, ◌+◌, ◌<◌, ◌≤◌, nat_eq, false, inl, inr, List, [], ◌∷◌, ◌++◌, length, map, take, drop, Option, Some, None, refl, sym, ap, ◌∙◌, subst, arith}
use Rattle.std.specs.List.{fold}
use Rattle.std.proofs.lemmas.Bool.{cond_both}
use Rattle.std.proofs.lemmas.List.Sums.{fold-append}
use Rattle.cl_lines.specs.declared.out.Out.TheVariants.{Answer, BadLine}
use Rattle.cl_lines.specs.Line.{client_of}
use Rattle.cl_serial.specs.Exchanges.{Exchange, unanswered, answered, pair_up}
use Rattle.cl_serial.specs.Serial.{IsIn}
use Rattle.cl_serial.specs.Transactions.{Session, session_step, session_after, is_passed_over}
use Rattle.cl_serial.specs.Transcript.{TranscriptEntry, fed, written, quiet, gather, asked_in, answered_in, command_in, questions, answers}
use Rattle.cl_serial.proofs.Gathered.{gather-append}
use Rattle.cl_serial.proofs.Places.{IsIn-nil}
use Rattle.cl_shown.specs.Shown.{with_outstanding}
use Rattle.cl_told.specs.Told.{told_session}
use Rattle.cl_types.specs.declared.answers.Outcome.{Outcome}
use Rattle.cl_types.specs.declared.operations.Command.{Command}
use Rattle.cl_causes.proofs.Sessions.{Line, Begins, begins_itself, begins_twice, IsIn-either, commands_at, lines_of, commands_begin, commands_found, lines_begin, step_same}

-- ---- where what is gathered stands

-- what is picked of an entry is with the entry's position
abbrev IsPlaced : {A : Type 0} → (ℕ → TranscriptEntry → List (A × ℕ)) → Type 0
IsPlaced {A} pick = (position : ℕ) (entry : TranscriptEntry) (z : A × ℕ) → IsIn (pick position entry) z → z.1 ≡ position

one_placed : {A : Type 0} (a : A) (position : ℕ) (z : A × ℕ) → IsIn ((a, position) ∷ []) z → z.1 ≡ position
one_placed a position z (zero, h) = cc
one_placed a position z (suc i, h) = absurd cc

command_placed : (s position : ℕ) (line : Option (ℕ × Command)) (z : Line) → IsIn (command_in s position line) z → z.1 ≡ position
command_placed s position None z h = absurd (IsIn-nil z h)
command_placed s position (Some line) z h =
    cond_both (nat_eq line.0 s) ((line.1, position) ∷ []) [] (λ list. IsIn list z → z.1 ≡ position) (λ here. one_placed line.1 position z) (λ there h. absurd (IsIn-nil z h)) h

asked_placed : (s : ℕ) → IsPlaced (asked_in s)
asked_placed s position (fed number text) z h = command_placed s position (client_of text) z h
asked_placed s position (written out) z h = absurd (IsIn-nil z h)
asked_placed s position quiet z h = absurd (IsIn-nil z h)

answered_placed : (s : ℕ) → IsPlaced (answered_in s)
answered_placed s position (fed number text) z h = absurd (IsIn-nil z h)
answered_placed s position (written (Answer other outcome)) z h =
    cond_both (nat_eq other s) ((outcome, position) ∷ []) [] (λ list. IsIn list z → z.1 ≡ position) (λ here. one_placed outcome position z) (λ there h. absurd (IsIn-nil z h)) h
answered_placed s position (written (BadLine line fault)) z h = absurd (IsIn-nil z h)
answered_placed s position quiet z h = absurd (IsIn-nil z h)

gathered : {A : Type 0} (pick : ℕ → TranscriptEntry → List (A × ℕ)) → IsPlaced pick → (position : ℕ) (list : List TranscriptEntry) (z : A × ℕ) → IsIn (gather pick position list) z →
    (position ≤ z.1) × (z.1 < position + length list)
unfolding gather
gathered pick placed position [] z h = absurd (IsIn-nil z h)
gathered pick placed position (entry ∷ list) z h = elim (IsIn-either (pick position entry) (gather pick (suc position) list) z h) [
  | inl here ↦ (let same = placed position entry z here in (omega (arith, same), omega (arith, same)))
  | inr there ↦ (let more = gathered pick placed (suc position) list z there in let a = more.0 in let b = more.1 in (omega (arith, a), omega (arith, b)))
]

-- a line stands in the transcript
pub question_within : (s : ℕ) (transcript : List TranscriptEntry) (z : Line) → IsIn (questions s transcript) z → z.1 < length transcript
question_within s transcript z h = let both = gathered (asked_in s) (asked_placed s) 0 transcript z h in let below = both.1 in omega (arith, below)

-- ---- a longer transcript

-- the questions and the answers that are added
abbrev pub new_questions : ℕ → List TranscriptEntry → List TranscriptEntry → List Line
new_questions s transcript more = gather (asked_in s) (length transcript) more

abbrev pub new_answers : ℕ → List TranscriptEntry → List TranscriptEntry → List (Outcome × ℕ)
new_answers s transcript more = gather (answered_in s) (length transcript) more

pub questions-more : (s : ℕ) (transcript more : List TranscriptEntry) → questions s (transcript ++ more) ≡ questions s transcript ++ new_questions s transcript more
questions-more s transcript more = gather-append (asked_in s) 0 transcript more ∙ ap (λ n. questions s transcript ++ gather (asked_in s) n more) (omega arith)

pub answers-more : (s : ℕ) (transcript more : List TranscriptEntry) → answers s (transcript ++ more) ≡ answers s transcript ++ new_answers s transcript more
answers-more s transcript more = gather-append (answered_in s) 0 transcript more ∙ ap (λ n. answers s transcript ++ gather (answered_in s) n more) (omega arith)

pub new_answer_behind : (s : ℕ) (transcript more : List TranscriptEntry) (z : Outcome × ℕ) → IsIn (new_answers s transcript more) z → length transcript ≤ z.1
new_answer_behind s transcript more z h = (gathered (answered_in s) (answered_placed s) (length transcript) more z h).0

-- the questions without an answer
abbrev pub left_in : ℕ → List TranscriptEntry → List Line
left_in s transcript = drop (length (answers s transcript)) (questions s transcript)

-- the answered exchanges of questions and answers
abbrev pub paired : List Line → List (Outcome × ℕ) → List Exchange
paired asked given = take (length given) (pair_up asked given)

split_pairs : (asked more : List Line) (given new : List (Outcome × ℕ)) → length given ≤ length asked →
    paired (asked ++ more) (given ++ new) ≡ paired asked given ++ paired (drop (length given) asked ++ more) new
unfolding pair_up
split_pairs asked more [] new few = refl
split_pairs [] more (a ∷ given) new few = absurd (omega arith)
split_pairs (q ∷ asked) more (a ∷ given) new few = ap (λ list. answered q a ∷ list) (split_pairs asked more given new (omega (arith, few)))

split_left : (asked more : List Line) (given new : List (Outcome × ℕ)) → length given ≤ length asked →
    drop (length (given ++ new)) (asked ++ more) ≡ drop (length new) (drop (length given) asked ++ more)
split_left asked more [] new few = refl
split_left [] more (a ∷ given) new few = absurd (omega arith)
split_left (q ∷ asked) more (a ∷ given) new few = split_left asked more given new (omega (arith, few))

module _ (s : ℕ) (transcript more : List TranscriptEntry) (few : length (answers s transcript) ≤ length (questions s transcript)) where
  -- the exchanges that are answered with what is added
  abbrev pub new_pairs : List Exchange
  new_pairs = paired (left_in s transcript ++ new_questions s transcript more) (new_answers s transcript more)

  pub told_more : told_session s (transcript ++ more) ≡ fold session_step (told_session s transcript) new_pairs
  told_more =
      ap (λ list. session_after (paired list (answers s (transcript ++ more)))) (questions-more s transcript more)
      ∙ (ap (λ list. session_after (paired (questions s transcript ++ new_questions s transcript more) list)) (answers-more s transcript more)
      ∙ (ap session_after (split_pairs (questions s transcript) (new_questions s transcript more) (answers s transcript) (new_answers s transcript more) few)
      ∙ fold-append session_step _ (paired (questions s transcript) (answers s transcript)) new_pairs))

  pub left_more : left_in s (transcript ++ more) ≡ drop (length (new_answers s transcript more)) (left_in s transcript ++ new_questions s transcript more)
  left_more =
      ap (λ list. drop (length (answers s (transcript ++ more))) list) (questions-more s transcript more)
      ∙ (ap (λ list. drop (length list) (questions s transcript ++ new_questions s transcript more)) (answers-more s transcript more)
      ∙ split_left (questions s transcript) (new_questions s transcript more) (answers s transcript) (new_answers s transcript more) few)

-- the answers of answered exchanges
pub paired_answer : (asked : List Line) (given : List (Outcome × ℕ)) (e : Exchange) (answer : Outcome × ℕ) → IsIn (paired asked given) e → e.answer ≡ Some answer → IsIn given answer
unfolding pair_up
paired_answer asked [] e answer h is = absurd (IsIn-nil e h)
paired_answer [] (a ∷ given) e answer h is = absurd (IsIn-nil e h)
paired_answer (q ∷ asked) (a ∷ given) e answer (zero, h) is = (0, let same : answered q a ≡ e = cc in ap (λ x. x.answer) same ∙ is)
paired_answer (q ∷ asked) (a ∷ given) e answer (suc i, h) is = let there = paired_answer asked given e answer (i, h) is in (suc there.0, there.1)

-- the exchange of a question without an answer
pub outstanding_answer : (left : List Line) (e : Exchange) → IsIn (map unanswered (take 1 left)) e → e.answer ≡ None
outstanding_answer [] e h = absurd (IsIn-nil e h)
outstanding_answer (q ∷ left) e (zero, h) = let same : unanswered q ≡ e = cc in ap (λ x. x.answer) (sym same)
outstanding_answer (q ∷ left) e (suc i, h) = absurd cc

-- the first question without an answer is not passed over by the first new answer
abbrev pub IsAnsweredWell : List Line → List (Outcome × ℕ) → Type 0
IsAnsweredWell left new = (q : Line) (rest : List Line) (a : Outcome × ℕ) (others : List (Outcome × ℕ)) → left ≡ q ∷ rest → new ≡ a ∷ others → is_passed_over (Some a.0) ≡ false

-- a session, with its first question that has no answer
abbrev pub outstanding_with : Session → List Line → Session
outstanding_with told left = fold session_step told (map unanswered (take 1 left))

-- the lines of a transaction stay, once a transcript is longer
lines_stay : (told : Session) (left more : List Line) (new : List (Outcome × ℕ)) (n : ℕ) → IsAnsweredWell left new →
    Begins (lines_of (commands_at (outstanding_with (fold session_step told (paired (left ++ more) new)) (drop (length new) (left ++ more))) n)) (lines_of (commands_at (outstanding_with told left) n))
unfolding pair_up
lines_stay told [] more new n well =
    let last = map unanswered (take 1 (drop (length new) more)) in
    lines_begin _ _ (begins_twice _ _ _ (commands_begin (paired more new) told n) (commands_begin last (fold session_step told (paired more new)) n))
lines_stay told (q ∷ left) more [] n well = begins_itself _
lines_stay told (q ∷ left) more (a ∷ new) n well =
    let here : Session = session_step told (answered q a) in
    let pairs : List Exchange = paired (left ++ more) new in
    let last : List Exchange = map unanswered (take 1 (drop (length new) (left ++ more))) in
    let same = step_same told q a n (well q left a new refl refl) in
    let longer = lines_begin _ _ (begins_twice _ _ _ (commands_begin pairs here n) (commands_begin last (fold session_step here pairs) n)) in
    record { rest = longer.rest; is = longer.is ∙ ap (λ list. list ++ longer.rest) (sym same) }

pub lines_grow : (s : ℕ) (transcript more : List TranscriptEntry) (n : ℕ) → length (answers s transcript) ≤ length (questions s transcript) →
    IsAnsweredWell (left_in s transcript) (new_answers s transcript more) →
    Begins (lines_of (commands_at (with_outstanding s (transcript ++ more)) n)) (lines_of (commands_at (with_outstanding s transcript) n))
lines_grow s transcript more n few well =
    subst (λ told. Begins (lines_of (commands_at (outstanding_with told (left_in s (transcript ++ more))) n)) (lines_of (commands_at (with_outstanding s transcript) n))) (sym (told_more s transcript more few))
    (subst (λ left. Begins (lines_of (commands_at (outstanding_with (fold session_step (told_session s transcript) (new_pairs s transcript more few)) left) n)) (lines_of (commands_at (with_outstanding s transcript) n)))
    (sym (left_more s transcript more few))
    (lines_stay (told_session s transcript) (left_in s transcript) (new_questions s transcript more) (new_answers s transcript more) n well))

-- an answered command of a transaction is one of the session as it was told
pub answered_told : (s : ℕ) (transcript : List TranscriptEntry) (n : ℕ) (e : Exchange) (answer : Outcome × ℕ) →
    IsIn (commands_at (with_outstanding s transcript) n) e → e.answer ≡ Some answer →
    IsIn (commands_at (told_session s transcript) n) e
answered_told s transcript n e answer h is = elim (commands_found (map unanswered (take 1 (left_in s transcript))) (told_session s transcript) n e h) [
  | inl there ↦ there
  | inr outstanding ↦ (let none = outstanding_answer (left_in s transcript) e outstanding in absurd cc)
]
