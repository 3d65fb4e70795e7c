-- A transcript with one more entry, a session after one more question or answer, and the replay of two histories, one behind the other.
use Rattle.std.proofs.Common.{◌≡◌, ℕ, ◌≤◌, List, [], ◌∷◌, ◌++◌, length, Option, Some, None, IsSome, refl, sym, ◌∙◌, ap, arith, if◌then◌else◌}
use Rattle.std.proofs.lemmas.List.{append-nil}
use Rattle.std.proofs.lemmas.List.Elements.{All-nil, All-cons, All-head, All-tail}
use Rattle.std.proofs.lemmas.List.Sums.{fold-append}
use Rattle.std.proofs.lemmas.Grind.{flat_map-append}
use Rattle.std.proofs.lemmas.Bool.{eq-eqb}
use Rattle.cl_types.specs.declared.operations.Command.{Command}
use Rattle.cl_types.specs.declared.operations.TxnId.{TxnId}
use Rattle.cl_types.specs.declared.answers.Outcome.{Outcome}
use Rattle.cl_lines.specs.declared.out.Out.TheVariants.{Answer}
use Rattle.cl_lines.specs.Line.{client_of}
use Rattle.cl_serial.specs.Transcript.{TranscriptEntry, entry_text, full_text, fed, written, asked_in, answered_in, questions, answers, command_in, outcome_in}
use Rattle.cl_serial.specs.Laws.{AreAnswered, with_first_answered}
use Rattle.cl_serial.specs.Exchanges.{Exchange, unanswered, answered, pair_up, exchanges, in_turn, after_answer}
use Rattle.cl_serial.specs.Transactions.{session_step, session_after, session_state, commands_of}
use Rattle.cl_serial.specs.PlainMap.{operations, no_values, after_operation, after_operations}
use Rattle.cl_serial.specs.Serial.{operations_of, values_after}
use Rattle.cl_serial.proofs.Gathered.{gather-push, pair_up-asked, pair_up-answered, in_turn-pair_up}

-- ---- one more question

own_command : (session position : ℕ) (command : Command) → command_in session position (Some (session, command)) ≡ (command, position) ∷ []
own_command session position command = ap (λ b. if b then (command, position) ∷ [] else []) (eq-eqb session session refl)

questions-asked : (session : ℕ) (transcript : List TranscriptEntry) (number : ℕ) (text : List ℕ) (command : Command) → client_of text ≡ Some (session, command) →
    questions session (transcript ++ fed number text ∷ []) ≡ questions session transcript ++ (command, length transcript) ∷ []
questions-asked session transcript number text command reads =
    gather-push (asked_in session) transcript (fed number text)
    ∙ ap (λ line. questions session transcript ++ command_in session (length transcript) line) reads
    ∙ ap (λ more. questions session transcript ++ more) (own_command session (length transcript) command)

answers-asked : (session : ℕ) (transcript : List TranscriptEntry) (number : ℕ) (text : List ℕ) → answers session (transcript ++ fed number text ∷ []) ≡ answers session transcript
answers-asked session transcript number text = gather-push (answered_in session) transcript (fed number text) ∙ append-nil (answers session transcript)

pub exchanges-asked : (session : ℕ) (transcript : List TranscriptEntry) (number : ℕ) (text : List ℕ) (command : Command) → client_of text ≡ Some (session, command) →
    length (answers session transcript) ≤ length (questions session transcript) →
    exchanges session (transcript ++ fed number text ∷ []) ≡ exchanges session transcript ++ unanswered (command, length transcript) ∷ []
exchanges-asked session transcript number text command reads few =
    ap (λ asked. pair_up asked (answers session (transcript ++ fed number text ∷ []))) (questions-asked session transcript number text command reads)
    ∙ ap (pair_up (questions session transcript ++ (command, length transcript) ∷ [])) (answers-asked session transcript number text)
    ∙ pair_up-asked (questions session transcript) (answers session transcript) (command, length transcript) few

-- an exchange is answered
abbrev pub IsAnswered : Exchange → Type 0
IsAnswered exchange = IsSome exchange.answer

-- as many answers as commands answer each
AreAnswered-pair_up : (asked : List (Command × ℕ)) (given : List (Outcome × ℕ)) → length given ≡ length asked → AreAnswered (pair_up asked given)
unfolding pair_up
AreAnswered-pair_up [] given same = All-nil IsAnswered
AreAnswered-pair_up (question ∷ asked) [] same = absurd (omega arith)
AreAnswered-pair_up (question ∷ asked) (answer ∷ given) same =
    All-cons IsAnswered (answered question answer) (pair_up asked given) refl (AreAnswered-pair_up asked given (omega arith))

follows_answer : (answer : Option (Outcome × ℕ)) (rest : List Exchange) → IsSome answer → after_answer answer rest ≡ rest
follows_answer None rest some = absurd cc
follows_answer (Some answer) rest some = refl

follows_last : (answer : Option (Outcome × ℕ)) → after_answer answer [] ≡ []
follows_last None = refl
follows_last (Some answer) = refl

-- the turn of each has come where all but the last are answered
in_turn-last : (before : List Exchange) (last : Exchange) → AreAnswered before → in_turn (before ++ last ∷ []) ≡ before ++ last ∷ []
unfolding in_turn
in_turn-last [] last all = ap (λ rest. last ∷ rest) (follows_last last.answer)
in_turn-last (x ∷ before) last all =
    ap (λ rest. x ∷ rest) (follows_answer x.answer (in_turn (before ++ last ∷ [])) (All-head IsAnswered x before all) ∙ in_turn-last before last (All-tail IsAnswered x before all))

session_after-push : (list : List Exchange) (one : Exchange) → session_after (list ++ one ∷ []) ≡ session_step (session_after list) one
session_after-push list one = fold-append session_step _ list (one ∷ [])

pub session_state-asked : (session : ℕ) (transcript : List TranscriptEntry) (number : ℕ) (text : List ℕ) (command : Command) → client_of text ≡ Some (session, command) →
    length (answers session transcript) ≡ length (questions session transcript) →
    session_state session (transcript ++ fed number text ∷ []) ≡ session_step (session_state session transcript) (unanswered (command, length transcript))
session_state-asked session transcript number text command reads same =
    let asked = questions session transcript in
    let given = answers session transcript in
    let one = unanswered (command, length transcript) in
    ap (λ list. session_after (in_turn list)) (exchanges-asked session transcript number text command reads (omega (arith, same)))
    ∙ ap session_after (in_turn-last (pair_up asked given) one (AreAnswered-pair_up asked given same))
    ∙ session_after-push (pair_up asked given) one
    ∙ ap (λ list. session_step (session_after list) one) (sym (in_turn-pair_up asked given (sym same)))

-- ---- one more answer

own_outcome : (session position : ℕ) (outcome : Outcome) → outcome_in session position (Answer session outcome) ≡ (outcome, position) ∷ []
own_outcome session position outcome = ap (λ b. if b then (outcome, position) ∷ [] else []) (eq-eqb session session refl)

pub exchanges-answered : (session : ℕ) (transcript : List TranscriptEntry) (outcome : Outcome) →
    exchanges session (transcript ++ written (Answer session outcome) ∷ []) ≡ with_first_answered (outcome, length transcript) (exchanges session transcript)
exchanges-answered session transcript outcome =
    let entry = written (Answer session outcome) in
    ap (λ asked. pair_up asked (answers session (transcript ++ entry ∷ []))) (gather-push (asked_in session) transcript entry ∙ append-nil (questions session transcript))
    ∙ ap (pair_up (questions session transcript)) (gather-push (answered_in session) transcript entry ∙ ap (λ more. answers session transcript ++ more) (own_outcome session (length transcript) outcome))
    ∙ pair_up-answered (questions session transcript) (answers session transcript) (outcome, length transcript)

passes_answered : (answer : Option (Outcome × ℕ)) (x : Exchange) (one : Outcome × ℕ) (rest : List Exchange) → IsSome answer →
    (elim answer [ None ↦ answered (x.command, x.line) one ∷ rest | Some before ↦ x ∷ with_first_answered one rest ]) ≡ x ∷ with_first_answered one rest
passes_answered None x one rest some = absurd cc
passes_answered (Some before) x one rest some = refl

-- the last exchange is answered where all before it were
with_first_answered-last : (before : List Exchange) (asked : Command × ℕ) (one : Outcome × ℕ) → AreAnswered before → with_first_answered one (before ++ unanswered asked ∷ []) ≡ before ++ answered asked one ∷ []
with_first_answered-last [] asked one all = refl
with_first_answered-last (x ∷ before) asked one all =
    passes_answered x.answer x one (before ++ unanswered asked ∷ []) (All-head IsAnswered x before all)
    ∙ ap (λ rest. x ∷ rest) (with_first_answered-last before asked one (All-tail IsAnswered x before all))

pub session_state-answered : (session : ℕ) (transcript : List TranscriptEntry) (outcome : Outcome) (before : List Exchange) (asked : Command × ℕ) →
    AreAnswered before → exchanges session transcript ≡ before ++ unanswered asked ∷ [] →
    session_state session (transcript ++ written (Answer session outcome) ∷ []) ≡ session_step (session_after before) (answered asked (outcome, length transcript))
session_state-answered session transcript outcome before asked all waiting =
    let one : Outcome × ℕ = (outcome, length transcript) in
    ap (λ list. session_after (in_turn list))
    (exchanges-answered session transcript outcome ∙ ap (with_first_answered one) waiting ∙ with_first_answered-last before asked one all)
    ∙ ap session_after (in_turn-last before (answered asked one) all)
    ∙ session_after-push before (answered asked one)

-- ---- any entry

pub full_text-push : (transcript : List TranscriptEntry) (entry : TranscriptEntry) → full_text (transcript ++ entry ∷ []) ≡ full_text transcript ++ entry_text entry
full_text-push transcript entry = flat_map-append entry_text transcript (entry ∷ []) ∙ ap (λ more. full_text transcript ++ more) (append-nil (entry_text entry))

pub exchanges-other : (session : ℕ) (transcript : List TranscriptEntry) (entry : TranscriptEntry) →
    asked_in session (length transcript) entry ≡ [] → answered_in session (length transcript) entry ≡ [] → exchanges session (transcript ++ entry ∷ []) ≡ exchanges session transcript
exchanges-other session transcript entry asks answers_it =
    ap (λ asked. pair_up asked (answers session (transcript ++ entry ∷ []))) (gather-push (asked_in session) transcript entry ∙ ap (λ more. questions session transcript ++ more) asks ∙ append-nil (questions session transcript))
    ∙ ap (pair_up (questions session transcript)) (gather-push (answered_in session) transcript entry ∙ ap (λ more. answers session transcript ++ more) answers_it ∙ append-nil (answers session transcript))

-- ---- replays

pub operations_of-append : (transcript : List TranscriptEntry) (front back : List TxnId) → operations_of transcript (front ++ back) ≡ operations_of transcript front ++ operations_of transcript back
operations_of-append transcript front back = flat_map-append (λ name. operations (commands_of transcript name)) front back

pub values_after-append : (transcript : List TranscriptEntry) (front back : List TxnId) → values_after transcript (front ++ back) ≡ after_operations (values_after transcript front) (operations_of transcript back)
values_after-append transcript front back =
    ap (after_operations no_values) (operations_of-append transcript front back) ∙ fold-append after_operation no_values (operations_of transcript front) (operations_of transcript back)
