-- COMMITTED in a transcript answers a command of a transaction; and a session out of range has none.
use Rattle.std.proofs.Common.{◌≡◌, ℕ, zero, suc, ◌+◌, ◌≤◌, Bool, true, false, nat_eq, List, [], ◌∷◌, ◌++◌, length, take, Option, Some, None, refl, sym, ap, ◌∙◌, subst, arith}
use Rattle.std.specs.List.{fold}
use Rattle.std.specs.Option.{unwrap_or}
use Rattle.std.proofs.lemmas.Bool.{cond-true, cond-false, eq-eqb, ne_eqb, and_from, le-leb, true≢false}
use Rattle.std.proofs.lemmas.List.Sums.{fold-append}
use Rattle.cl_lines.proofs.Readings.{client_of-session}
use Rattle.cl_lines.specs.Line.{client_of}
use Rattle.cl_lines.specs.declared.out.Out.TheVariants.{Answer}
use Rattle.cl_serial.proofs.Growth.{KeepsCommands-step}
use Rattle.cl_serial.proofs.Places.{IsIn-push_last, IsIn-nil}
use Rattle.cl_serial.specs.Exchanges.{Exchange, answered, pair_up, exchanges}
use Rattle.cl_serial.specs.Serial.{StandsAt, IsIn, FitsTurn, AnswersFitTurns}
use Rattle.cl_serial.specs.Transactions.{Session, Transaction, session_step, session_after}
use Rattle.cl_serial.specs.Transcript.{TranscriptEntry, fed, written, quiet, gather, asked_in, answered_in, command_in, questions, answers}
use Rattle.cl_system.specs.Roles.{IsOfSession}
use Rattle.cl_told.proofs.Turning.{same_session}
use Rattle.cl_told.specs.Told.{told_session}
use Rattle.cl_types.specs.declared.answers.Outcome.{Outcome}
use Rattle.cl_types.specs.declared.answers.Outcome.TheVariants.{Committed}
use Rattle.cl_types.specs.declared.limits.TheConstants.{SESSIONS_MAX}
use Rattle.cl_types.specs.declared.operations.Command.{Command}
use Rattle.cl_types.specs.declared.operations.TxnId.{TxnId}
use Rattle.cl_types.specs.Names.{is_between}
use Rattle.cl_served.proofs.Evidence.{commands_told}
use Rattle.cl_served.proofs.Sessions.{told_commands, next_number, ends}

-- ---- lists

in_right : {X : Type 0} (xs ys : List X) (x : X) → IsIn ys x → IsIn (xs ++ ys) x
in_right [] ys x is = is
in_right (y ∷ xs) ys x is = let found = in_right xs ys x is in (suc found.0, found.1)

-- an answer that stands in a transcript is among the answers
given_at : (s position : ℕ) (transcript : List TranscriptEntry) (outcome : Outcome) (k : ℕ) → StandsAt transcript k (written (Answer s outcome)) →
    IsIn (gather (answered_in s) position transcript) (outcome, position + k)
unfolding gather
given_at s position [] outcome k at = absurd (let none : ◌≡◌ {A = Option TranscriptEntry} None (Some (written (Answer s outcome))) = at in cc)
given_at s position (entry ∷ rest) outcome zero at =
    let same : entry ≡ written (Answer s outcome) = ap (λ (o : Option TranscriptEntry). unwrap_or o entry) at in
    let one : answered_in s position entry ≡ (outcome, position) ∷ [] = ap (answered_in s position) same
    ∙ cond-true _ ((outcome, position) ∷ []) [] (eq-eqb s s refl) in
    let here : position + 0 ≡ position = omega arith in
    subst (λ list. IsIn (list ++ gather (answered_in s) (suc position) rest) (outcome, position + 0)) (sym one) (0, ap (λ n. Some (outcome, n)) (sym here))
given_at s position (entry ∷ rest) outcome (suc k) at =
    let far : suc position + k ≡ position + suc k = omega arith in
    in_right (answered_in s position entry) (gather (answered_in s) (suc position) rest) (outcome, position + suc k)
    (subst (λ n. IsIn (gather (answered_in s) (suc position) rest) (outcome, n)) far (given_at s (suc position) rest outcome k at))

-- the k-th answer is that of the k-th exchange
record IsExchange (list : List Exchange) (n k : ℕ) (answer : Outcome × ℕ) : Type 0 where
  asked : Command × ℕ
  stands : StandsAt list k (answered asked answer)
  more : List Exchange
  split : take n list ≡ take k list ++ answered asked answer ∷ more

exchange_at : (asked : List (Command × ℕ)) (given : List (Outcome × ℕ)) (k : ℕ) (answer : Outcome × ℕ) → length given ≤ length asked → StandsAt given k answer →
    IsExchange (pair_up asked given) (length given) k answer
unfolding pair_up
exchange_at asked [] k answer few at = absurd (let none : ◌≡◌ {A = Option (Outcome × ℕ)} None (Some answer) = at in cc)
exchange_at [] (a ∷ given) k answer few at = absurd (omega arith)
exchange_at (q ∷ asked) (a ∷ given) zero answer few at =
    let same : a ≡ answer = ap (λ (o : Option (Outcome × ℕ)). unwrap_or o a) at in
    record {
      asked = q;
      stands = ap (λ x. Some (answered q x)) same;
      more = take (length given) (pair_up asked given);
      split = ap (λ x. answered q x ∷ take (length given) (pair_up asked given)) same;
    }
exchange_at (q ∷ asked) (a ∷ given) (suc k) answer few at =
    let rest = exchange_at asked given k answer (omega (arith, few)) at in
    record { asked = rest.asked; stands = rest.stands; more = rest.more; split = ap (λ list. answered q a ∷ list) rest.split }

-- ---- a session

-- a command of a transaction stays one
stays : (list : List Exchange) (session : Session) (number : ℕ) (exchange : Exchange) → IsIn (told_commands session number) exchange →
    IsIn (told_commands (fold session_step session list) number) exchange
stays [] session number exchange is = is
stays (one ∷ list) session number exchange is = stays list (session_step session one) number exchange (KeepsCommands-step session one number exchange is)

-- COMMITTED ends the transaction that the session is in
ends_one : (session : Session) (transaction : Transaction) (asked : Command × ℕ) (position : ℕ) → session.current ≡ Some transaction →
    IsIn (told_commands (session_step session (answered asked (Committed, position))) (next_number session)) (answered asked (Committed, position))
unfolding session_step
ends_one session transaction asked position inside =
    subst (λ (s : Session). IsIn (told_commands (session_step s (answered asked (Committed, position))) (next_number s)) (answered asked (Committed, position)))
    (same_session session (Some transaction) inside)
    (subst (λ list. IsIn list (answered asked (Committed, position))) (sym (ends session.ended transaction (answered asked (Committed, position))).here)
    (IsIn-push_last (told_commands (record { ended = session.ended; current = Some transaction }) (suc (length session.ended)))
    (answered asked (Committed, position))))

-- a transaction was answered it
pub record IsCommittedAt (s : ℕ) (transcript : List TranscriptEntry) (position : ℕ) : Type 0 where
  pub number : ℕ
  pub exchange : Exchange
  pub is_in : IsIn (told_commands (told_session s transcript) number) exchange
  pub answered_is : exchange.answer ≡ Some (Committed, position)

pub committed_at : (s position : ℕ) (transcript : List TranscriptEntry) → length (answers s transcript) ≤ length (questions s transcript) →
    AnswersFitTurns transcript → StandsAt transcript position (written (Answer s Committed)) → IsCommittedAt s transcript position
committed_at s position transcript few fits at =
    let given = given_at s 0 transcript Committed position at in
    let start : 0 + position ≡ position = omega arith in
    let found = subst (λ n. StandsAt (answers s transcript) given.0 (Committed, n)) start given.1 in
    let one = exchange_at (questions s transcript) (answers s transcript) given.0 (Committed, position) few found in
    let exchange : Exchange = answered one.asked (Committed, position) in
    let before : Session = session_after (take given.0 (exchanges s transcript)) in
    let turn : FitsTurn before one.asked.0 Committed = fits s given.0 exchange Committed one.stands refl in
    let inside = (turn.committed refl).0 in
    let told : told_session s transcript ≡ fold session_step (session_step before exchange) one.more =
    ap session_after one.split ∙ fold-append session_step _ (take given.0 (exchanges s transcript)) (exchange ∷ one.more) in
    record {
      number = next_number before;
      exchange = exchange;
      is_in = subst (λ session. IsIn (told_commands session (next_number before)) exchange) (sym told)
          (stays one.more (session_step before exchange) (next_number before) exchange (ends_one before inside.0 one.asked position inside.1));
      answered_is = refl;
    }

-- ---- sessions out of range

module _ (s : ℕ) (out : is_between 1 SESSIONS_MAX s ≡ false) where
  unasked : (position : ℕ) (text : List ℕ) (reading : Option (ℕ × Command)) → client_of text ≡ reading → command_in s position reading ≡ []
  unasked position text None is = refl
  unasked position text (Some line) is =
      cond-false (nat_eq line.0 s) ((line.1, position) ∷ []) [] (ne_eqb line.0 s (λ same.
      let between = client_of-session text line.0 line.1 is in
      let low : 1 ≤ s = subst (λ n. 1 ≤ n) same between.0 in
      let high : s ≤ SESSIONS_MAX = subst (λ n. n ≤ SESSIONS_MAX) same between.1 in
      true≢false (sym (and_from _ _ (le-leb 1 s low) (le-leb s SESSIONS_MAX high)) ∙ out)))

  asked_none : (position : ℕ) (entry : TranscriptEntry) → asked_in s position entry ≡ []
  asked_none position (fed number text) = unasked position text (client_of text) refl
  asked_none position (written out) = refl
  asked_none position quiet = refl

  no_questions : (position : ℕ) (transcript : List TranscriptEntry) → gather (asked_in s) position transcript ≡ []
  unfolding gather
  no_questions position [] = refl
  no_questions position (entry ∷ rest) = ap (λ list. list ++ gather (asked_in s) (suc position) rest) (asked_none position entry)
      ∙ no_questions (suc position) rest

  nothing_paired : (given : List (Outcome × ℕ)) (n : ℕ) → take n (pair_up [] given) ≡ []
  unfolding pair_up
  nothing_paired given zero = refl
  nothing_paired given (suc n) = refl

  no_commands : (number : ℕ) → told_commands (record { ended = []; current = None }) number ≡ []
  no_commands zero = refl
  no_commands (suc k) = refl

  pub none_told : (transcript : List TranscriptEntry) (number : ℕ) → told_commands (told_session s transcript) number ≡ []
  none_told transcript number =
      ap (λ asked. told_commands (session_after (take (length (answers s transcript)) (pair_up asked (answers s transcript)))) number)
      (no_questions 0 transcript)
      ∙ (ap (λ list. told_commands (session_after list) number) (nothing_paired (answers s transcript) (length (answers s transcript))) ∙ no_commands number)

-- a transaction with a command is of a session, which there is
pub of_session_from : (transcript : List TranscriptEntry) (name : TxnId) (exchange : Exchange) → IsIn (commands_told transcript name) exchange →
    IsOfSession name
of_session_from transcript name exchange is = by (is_between 1 SESSIONS_MAX name.session) refl
  where
    by : (b : Bool) → is_between 1 SESSIONS_MAX name.session ≡ b → is_between 1 SESSIONS_MAX name.session ≡ true
    by true own = own
    by false out = absurd (IsIn-nil exchange (subst (λ list. IsIn list exchange) (none_told name.session out transcript name.number) is))
