-- What a transcript shows of a session, with one more entry.
use Rattle.std.proofs.Common.{◌≡◌, ◌≢◌, ℕ, ◌≤◌, List, [], ◌∷◌, ◌++◌, length, map, take, drop, Some, refl, sym, ap, ◌∙◌, subst, arith, append_assoc}
use Rattle.std.proofs.lemmas.List.{append-nil, map-append, length-append}
use Rattle.std.proofs.lemmas.List.Sums.{fold-append}
use Rattle.std.proofs.lemmas.Bool.{cond-true, cond-false, eq-eqb, ne_eqb}
use Rattle.cl_lines.specs.declared.out.Out.TheVariants.{Answer}
use Rattle.cl_lines.specs.Line.{client_of}
use Rattle.cl_serial.specs.Exchanges.{answered, pair_up}
use Rattle.cl_serial.specs.Transactions.{Session, session_step, session_after}
use Rattle.cl_serial.specs.Transcript.{TranscriptEntry, fed, written, asked_in, answered_in, command_in, questions, answers}
use Rattle.cl_serial.proofs.Gathered.{gather-push}
use Rattle.cl_told.specs.Told.{told_session, pending}
use Rattle.cl_types.specs.declared.answers.Outcome.{Outcome}
use Rattle.cl_types.specs.declared.operations.Command.{Command}

-- a command more leaves the answered exchanges
answered-asked : (asked : List (Command × ℕ)) (given : List (Outcome × ℕ)) (one : Command × ℕ) → length given ≤ length asked → take (length given) (pair_up (asked ++ one ∷ []) given) ≡ take (length given) (pair_up asked given)
unfolding pair_up
answered-asked asked [] one few = refl
answered-asked [] (a ∷ given) one few = absurd (omega arith)
answered-asked (q ∷ asked) (a ∷ given) one few = ap (λ more. answered q a ∷ more) (answered-asked asked given one (omega arith))

left-asked : (asked : List (Command × ℕ)) (given : List (Outcome × ℕ)) (one : Command × ℕ) → length given ≤ length asked → drop (length given) (asked ++ one ∷ []) ≡ drop (length given) asked ++ one ∷ []
left-asked asked [] one few = refl
left-asked [] (a ∷ given) one few = absurd (omega arith)
left-asked (q ∷ asked) (a ∷ given) one few = left-asked asked given one (omega arith)

-- the first command without an answer, and what an answer makes of it
record IsNext (asked : List (Command × ℕ)) (given : List (Outcome × ℕ)) (one : Outcome × ℕ) (command : Command) (left : List Command) : Type 0 where
  line : ℕ
  few : length (given ++ one ∷ []) ≤ length asked
  left_is : map (λ (question : Command × ℕ). question.0) (drop (length (given ++ one ∷ [])) asked) ≡ left
  part_is : take (length (given ++ one ∷ [])) (pair_up asked (given ++ one ∷ [])) ≡ take (length given) (pair_up asked given) ++ answered (command, line) one ∷ []

next-answered : (asked : List (Command × ℕ)) (given : List (Outcome × ℕ)) (one : Outcome × ℕ) (command : Command) (left : List Command) →
    map (λ (question : Command × ℕ). question.0) (drop (length given) asked) ≡ command ∷ left → IsNext asked given one command left
unfolding pair_up
next-answered [] [] one command left is = absurd cc
next-answered [] (a ∷ given) one command left is = absurd cc
next-answered (q ∷ asked) [] one command left is =
    let same : q.0 ≡ command = cc in
    record { line = q.1; few = omega arith; left_is = cc; part_is = ap (λ c. answered (c, q.1) one ∷ []) same }
next-answered (q ∷ asked) (a ∷ given) one command left is =
    let rest = next-answered asked given one command left is in
    let few = rest.few in
    record { line = rest.line; few = omega arith; left_is = rest.left_is; part_is = ap (λ more. answered q a ∷ more) rest.part_is }

-- ---- what is shown

-- these commands have no answer, and the session is this
pub record Shows (s : ℕ) (transcript : List TranscriptEntry) (left : List Command) (told : Session) : Type 0 where
  pub few : length (answers s transcript) ≤ length (questions s transcript)
  pub left_is : pending s transcript ≡ left
  pub told_is : told_session s transcript ≡ told

-- by the questions and the answers
shows_of : (s : ℕ) (transcript : List TranscriptEntry) (asked : List (Command × ℕ)) (given : List (Outcome × ℕ)) (left : List Command) (told : Session) →
    questions s transcript ≡ asked → answers s transcript ≡ given → length given ≤ length asked → map (λ (question : Command × ℕ). question.0) (drop (length given) asked) ≡ left →
    session_after (take (length given) (pair_up asked given)) ≡ told → Shows s transcript left told
shows_of s transcript asked given left told questions_are answers_are few left_is told_is = record {
  few = rw (questions_are, answers_are) few;
  left_is = rw (questions_are, answers_are) left_is;
  told_is = rw (questions_are, answers_are) told_is;
}

module _ (s : ℕ) (transcript : List TranscriptEntry) (left : List Command) (told : Session) where
  -- a line of the session
  pub shows-line : Shows s transcript left told → (number : ℕ) (text : List ℕ) (command : Command) → client_of text ≡ Some (s, command) → Shows s (transcript ++ fed number text ∷ []) (left ++ command ∷ []) told
  shows-line shows number text command reads =
      let one : Command × ℕ = (command, length transcript) in
      shows_of s (transcript ++ fed number text ∷ []) (questions s transcript ++ one ∷ []) (answers s transcript) (left ++ command ∷ []) told
      (gather-push (asked_in s) transcript (fed number text)
      ∙ (ap (λ line. questions s transcript ++ command_in s (length transcript) line) reads
      ∙ ap (λ more. questions s transcript ++ more) (cond-true _ (one ∷ []) [] (eq-eqb s s refl))))
      (gather-push (answered_in s) transcript (fed number text) ∙ append-nil (answers s transcript))
      (let few = shows.few in omega (arith, length-append (questions s transcript) (one ∷ [])))
      (ap (map (λ (question : Command × ℕ). question.0)) (left-asked (questions s transcript) (answers s transcript) one shows.few)
      ∙ (map-append (λ (question : Command × ℕ). question.0) (drop (length (answers s transcript)) (questions s transcript)) (one ∷ []) ∙ ap (λ list. list ++ command ∷ []) shows.left_is))
      (ap session_after (answered-asked (questions s transcript) (answers s transcript) one shows.few) ∙ shows.told_is)

  -- an entry that is none of the session's
  pub shows-other : Shows s transcript left told → (entry : TranscriptEntry) → asked_in s (length transcript) entry ≡ [] → answered_in s (length transcript) entry ≡ [] → Shows s (transcript ++ entry ∷ []) left told
  shows-other shows entry asks answers_it =
      shows_of s (transcript ++ entry ∷ []) (questions s transcript) (answers s transcript) left told
      (gather-push (asked_in s) transcript entry ∙ (ap (λ more. questions s transcript ++ more) asks ∙ append-nil (questions s transcript)))
      (gather-push (answered_in s) transcript entry ∙ (ap (λ more. answers s transcript ++ more) answers_it ∙ append-nil (answers s transcript)))
      shows.few shows.left_is shows.told_is

-- the first command without an answer has its outcome
pub record Answers (s : ℕ) (transcript : List TranscriptEntry) (command : Command) (outcome : Outcome) (left : List Command) (told : Session) : Type 0 where
  pub line : ℕ
  pub shows : Shows s (transcript ++ written (Answer s outcome) ∷ []) left (session_step told (answered (command, line) (outcome, length transcript)))

pub shows-answer : (s : ℕ) (transcript : List TranscriptEntry) (command : Command) (outcome : Outcome) (left : List Command) (told : Session) → Shows s transcript (command ∷ left) told → Answers s transcript command outcome left told
shows-answer s transcript command outcome left told shows =
    let entry = written (Answer s outcome) in
    let one : Outcome × ℕ = (outcome, length transcript) in
    let next = next-answered (questions s transcript) (answers s transcript) one command left shows.left_is in
    record {
      line = next.line;
      shows = shows_of s (transcript ++ entry ∷ []) (questions s transcript) (answers s transcript ++ one ∷ []) left (session_step told (answered (command, next.line) one))
          (gather-push (asked_in s) transcript entry ∙ append-nil (questions s transcript))
          (gather-push (answered_in s) transcript entry ∙ ap (λ more. answers s transcript ++ more) (cond-true _ (one ∷ []) [] (eq-eqb s s refl)))
          next.few next.left_is
          (ap session_after next.part_is
          ∙ (fold-append session_step _ (take (length (answers s transcript)) (pair_up (questions s transcript) (answers s transcript))) (answered (command, next.line) one ∷ [])
          ∙ ap (λ session. session_step session (answered (command, next.line) one)) shows.told_is));
    }

-- outcomes of another session
pub shows-outcomes : (s t : ℕ) (transcript : List TranscriptEntry) (left : List Command) (told : Session) → t ≢ s → (outcomes : List Outcome) → Shows s transcript left told →
    Shows s (transcript ++ map (λ outcome. written (Answer t outcome)) outcomes) left told
shows-outcomes s t transcript left told other [] shows = subst (λ list. Shows s list left told) (sym (append-nil transcript)) shows
shows-outcomes s t transcript left told other (outcome ∷ outcomes) shows =
    subst (λ list. Shows s list left told) (append_assoc transcript (written (Answer t outcome) ∷ []) (map (λ outcome. written (Answer t outcome)) outcomes))
    (shows-outcomes s t (transcript ++ written (Answer t outcome) ∷ []) left told other outcomes
    (shows-other s transcript left told shows (written (Answer t outcome)) refl (cond-false _ _ _ (ne_eqb t s other))))
