-- A transaction begins within its transcript.
use Rattle.std.proofs.Common.{◌≡◌, ℕ, zero, suc, ◌+◌, ◌<◌, ◌≤◌, Bool, true, false, List, [], ◌∷◌, ◌++◌, length, take, All, Option, Some, None, nat_eq, if◌then◌else◌, ap, arith, subst}
use Rattle.std.specs.List.{slice_get, fold}
use Rattle.std.specs.Option.{unwrap_or, option_to_list}
use Rattle.std.proofs.lemmas.Bool.{cond_both}
use Rattle.std.proofs.lemmas.List.Elements.{All-nil, All-cons, All-head, All-tail, All-append, All-take}
use Rattle.cl_lines.specs.Line.{client_of}
use Rattle.cl_serial.specs.Exchanges.{Exchange, unanswered, answered, pair_up, outcome_of}
use Rattle.cl_serial.specs.Transactions.{Session, Transaction, new_session, session_step, with_command, is_begin, is_passed_over, is_end}
use Rattle.cl_serial.specs.Transcript.{TranscriptEntry, fed, written, quiet, gather, asked_in, command_in, questions, answers}
use Rattle.cl_told.specs.Told.{told_session}
use Rattle.cl_types.specs.declared.answers.Outcome.{Outcome}
use Rattle.cl_types.specs.declared.operations.Command.{Command}
use Rattle.cl_served.proofs.Sessions.{told_transaction}

module _ (s size : ℕ) where
  abbrev IsAsked : Command × ℕ → Type 0
  IsAsked question = question.1 < size

  abbrev IsLine : Exchange → Type 0
  IsLine exchange = exchange.line < size

  abbrev Begins : Transaction → Type 0
  Begins transaction = transaction.begin < size

  command_within : (position : ℕ) → position < size → (line : Option (ℕ × Command)) → All IsAsked (command_in s position line)
  command_within position below None = All-nil IsAsked
  command_within position below (Some line) =
      cond_both (nat_eq line.0 s) ((line.1, position) ∷ []) [] (All IsAsked) (λ own. All-cons IsAsked (line.1, position) [] below (All-nil IsAsked))
      (λ other. All-nil IsAsked)

  entry_within : (position : ℕ) (entry : TranscriptEntry) → position < size → All IsAsked (asked_in s position entry)
  entry_within position (fed number text) below = command_within position below (client_of text)
  entry_within position (written out) below = All-nil IsAsked
  entry_within position quiet below = All-nil IsAsked

  asked_within : (position : ℕ) (transcript : List TranscriptEntry) → position + length transcript ≤ size →
      All IsAsked (gather (asked_in s) position transcript)
  unfolding gather
  asked_within position [] most = All-nil IsAsked
  asked_within position (entry ∷ rest) most =
      All-append IsAsked (asked_in s position entry) (gather (asked_in s) (suc position) rest) (entry_within position entry (omega (arith, most)))
      (asked_within (suc position) rest (omega (arith, most)))

  lines_within : (asked : List (Command × ℕ)) (given : List (Outcome × ℕ)) → All IsAsked asked → All IsLine (pair_up asked given)
  unfolding pair_up
  lines_within [] given all = All-nil IsLine
  lines_within (q ∷ asked) [] all = All-cons IsLine (unanswered q) (pair_up asked []) (All-head IsAsked q asked all)
      (lines_within asked [] (All-tail IsAsked q asked all))
  lines_within (q ∷ asked) (a ∷ given) all = All-cons IsLine (answered q a) (pair_up asked given) (All-head IsAsked q asked all)
      (lines_within asked given (All-tail IsAsked q asked all))

  -- each transaction of the session begins so
  record AllBegin (session : Session) : Type 0 where
    ended : All Begins session.ended
    current : All Begins (option_to_list session.current)

  one_begins : (transaction : Transaction) → Begins transaction → All Begins (transaction ∷ [])
  one_begins transaction is = All-cons Begins transaction [] is (All-nil Begins)

  outside_begins : (begins : Bool) (ended : List Transaction) (one : Exchange) → All Begins ended → IsLine one →
      AllBegin (if begins then record {
        ended = ended;
        current = Some
            (record { begin = one.line; commands = [] });
      } else record { ended = ended; current = None })
  outside_begins true ended one all is = record { ended = all; current = one_begins (record { begin = one.line; commands = [] }) is }
  outside_begins false ended one all is = record { ended = all; current = All-nil Begins }

  inside_begins : (passes ends : Bool) (ended : List Transaction) (current : Transaction) (one : Exchange) → All Begins ended → Begins current →
      AllBegin (if passes then record { ended = ended; current = Some current }
      else (if ends then record { ended = ended ++ with_command current one ∷ []; current = None } else record {
        ended = ended;
        current = Some
            (with_command current one);
      }))
  inside_begins true ends ended current one all is = record { ended = all; current = one_begins current is }
  inside_begins false true ended current one all is = record {
    ended = All-append Begins ended (with_command current one ∷ []) all
        (one_begins (with_command current one) is);
    current = All-nil Begins;
  }
  inside_begins false false ended current one all is = record { ended = all; current = one_begins (with_command current one) is }

  step_begins : (ended : List Transaction) (current : Option Transaction) (one : Exchange) → All Begins ended → All Begins (option_to_list current) →
      IsLine one → AllBegin (session_step (record { ended = ended; current = current }) one)
  unfolding session_step
  step_begins ended None one all is line = outside_begins (is_begin one.command) ended one all line
  step_begins ended (Some current) one all is line = inside_begins (is_passed_over (outcome_of one)) (is_end (outcome_of one)) ended current one all
      (All-head Begins current [] is)

  all_begin : (list : List Exchange) (session : Session) → AllBegin session → All IsLine list → AllBegin (fold session_step session list)
  all_begin [] session is all = is
  all_begin (one ∷ list) session is all = all_begin list (session_step session one)
      (step_begins session.ended session.current one is.ended is.current (All-head IsLine one list all)) (All-tail IsLine one list all)

  found_begins : (list : List Transaction) (k : ℕ) (transaction : Transaction) → All Begins list → slice_get list k ≡ Some transaction → Begins transaction
  found_begins [] k transaction all is = absurd (let no : ◌≡◌ {A = Option Transaction} None (Some transaction) = is in cc)
  found_begins (x ∷ list) zero transaction all is = subst Begins (ap (λ (o : Option Transaction). unwrap_or o x) is) (All-head Begins x list all)
  found_begins (x ∷ list) (suc k) transaction all is = found_begins list k transaction (All-tail Begins x list all) is

pub begins_within : (s : ℕ) (transcript : List TranscriptEntry) (number : ℕ) (transaction : Transaction) →
    told_transaction (told_session s transcript) number ≡ Some transaction → transaction.begin < length transcript
begins_within s transcript zero transaction is = absurd (let no : ◌≡◌ {A = Option Transaction} None (Some transaction) = is in cc)
begins_within s transcript (suc k) transaction is =
    let size : ℕ = length transcript in
    let lines = lines_within s size (questions s transcript) (answers s transcript) (asked_within s size 0 transcript (omega arith)) in
    let all = all_begin s size (take (length (answers s transcript)) (pair_up (questions s transcript) (answers s transcript))) new_session
    (record { ended = All-nil (Begins s size); current = All-nil (Begins s size) })
    (All-take (IsLine s size) (length (answers s transcript)) (pair_up (questions s transcript) (answers s transcript)) lines) in
    found_begins s size _ k transaction (All-append (Begins s size) _ _ all.ended all.current) is
