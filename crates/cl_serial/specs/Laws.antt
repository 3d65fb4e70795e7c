-- The laws of transcripts and replays: what one more entry extends, how replays join, and what a verdict says.
use Rattle.std.specs.Prelude.{◌≡◌, ℕ, ◌≤◌, List, [], ◌∷◌, ◌++◌, length, Some, None, IsSome, All, ◌↔◌}
use Rattle.cl_types.specs.declared.operations.Command.{Command}
use Rattle.cl_types.specs.declared.operations.TxnId.{TxnId}
use Rattle.cl_types.specs.declared.answers.Outcome.{Outcome}
use Rattle.cl_lines.specs.declared.out.Out.TheVariants.{Answer}
use Rattle.cl_lines.specs.Line.{client_of}
use Rattle.cl_serial.specs.Transcript.{TranscriptEntry, fed, written, fed_line, fed_lines, entry_text, full_text, asked_in, answered_in, questions, answers, faulty_in, faulty_lines, refused_in, refusals}
use Rattle.cl_serial.specs.Exchanges.{Exchange, unanswered, answered, exchanges}
use Rattle.cl_serial.specs.Transactions.{session_step, session_after, session_state, commands_of}
use Rattle.cl_serial.specs.PlainMap.{Values, Operation, no_values, after_operations, RepliesAgree}
use Rattle.cl_serial.specs.Serial.{StandsAt, IsIn, HistoryFits, operations_of, values_after}
use Rattle.cl_serial.specs.Verdict.{AreFit, IsVerdict}
use Rattle.cl_serial.specs.declared.verdict.Verdict.{Verdict}
use Rattle.cl_serial.specs.declared.verdict.Verdict.TheVariants.{Same, First}

-- each exchange has its answer
abbrev pub AreAnswered : List Exchange → Type 0
AreAnswered list = All (λ exchange. IsSome exchange.answer) list

-- the exchanges, where the first without an answer has this one
abbrev pub with_first_answered : Outcome × ℕ → List Exchange → List Exchange
with_first_answered answer [] = []
with_first_answered answer (exchange ∷ rest) = elim exchange.answer [ None ↦ answered (exchange.command, exchange.line) answer ∷ rest | Some before ↦ exchange ∷ with_first_answered answer rest ]

-- one more entry adds to a session's questions the command that it asks, with its position
abbrev pub EntryAddsItsQuestion : Type 0
EntryAddsItsQuestion = (session : ℕ) (transcript : List TranscriptEntry) (entry : TranscriptEntry) →
    questions session (transcript ++ entry ∷ []) ≡ questions session transcript ++ asked_in session (length transcript) entry

-- and to its answers the outcome that it writes
abbrev pub EntryAddsItsAnswer : Type 0
EntryAddsItsAnswer = (session : ℕ) (transcript : List TranscriptEntry) (entry : TranscriptEntry) →
    answers session (transcript ++ entry ∷ []) ≡ answers session transcript ++ answered_in session (length transcript) entry

-- one more entry adds its line to those that were fed, its fault to those of fed lines, and its refusal to those written
abbrev pub EntryAddsItsLine : Type 0
EntryAddsItsLine = (transcript : List TranscriptEntry) (entry : TranscriptEntry) →
    fed_lines (transcript ++ entry ∷ []) ≡ fed_lines transcript ++ fed_line (length transcript) entry

-- one more entry adds the fault of its line to those of the fed lines
abbrev pub EntryAddsItsFault : Type 0
EntryAddsItsFault = (transcript : List TranscriptEntry) (entry : TranscriptEntry) →
    faulty_lines (transcript ++ entry ∷ []) ≡ faulty_lines transcript ++ faulty_in (length transcript) entry

-- one more entry adds the refusal that it writes
abbrev pub EntryAddsItsRefusal : Type 0
EntryAddsItsRefusal = (transcript : List TranscriptEntry) (entry : TranscriptEntry) →
    refusals (transcript ++ entry ∷ []) ≡ refusals transcript ++ refused_in (length transcript) entry

-- and its text to the full text
abbrev pub EntryAddsItsText : Type 0
EntryAddsItsText = (transcript : List TranscriptEntry) (entry : TranscriptEntry) →
    full_text (transcript ++ entry ∷ []) ≡ full_text transcript ++ entry_text entry

-- an entry that neither asks nor answers in a session leaves its exchanges
abbrev pub OtherEntryLeavesExchanges : Type 0
OtherEntryLeavesExchanges = (session : ℕ) (transcript : List TranscriptEntry) (entry : TranscriptEntry) →
    asked_in session (length transcript) entry ≡ [] → answered_in session (length transcript) entry ≡ [] →
    exchanges session (transcript ++ entry ∷ []) ≡ exchanges session transcript

-- a question adds an exchange without an answer, where there are no more answers than questions
abbrev pub QuestionAddsExchange : Type 0
QuestionAddsExchange = (session : ℕ) (transcript : List TranscriptEntry) (number : ℕ) (text : List ℕ) (command : Command) →
    client_of text ≡ Some (session, command) → length (answers session transcript) ≤ length (questions session transcript) →
    exchanges session (transcript ++ fed number text ∷ []) ≡ exchanges session transcript ++ unanswered (command, length transcript) ∷ []

-- and takes the session one step on, where each question before has its answer
abbrev pub QuestionStepsSession : Type 0
QuestionStepsSession = (session : ℕ) (transcript : List TranscriptEntry) (number : ℕ) (text : List ℕ) (command : Command) →
    client_of text ≡ Some (session, command) → length (answers session transcript) ≡ length (questions session transcript) →
    session_state session (transcript ++ fed number text ∷ []) ≡ session_step (session_state session transcript) (unanswered (command, length transcript))

-- an answer fills the first exchange without one
abbrev pub AnswerFillsExchange : Type 0
AnswerFillsExchange = (session : ℕ) (transcript : List TranscriptEntry) (outcome : Outcome) →
    exchanges session (transcript ++ written (Answer session outcome) ∷ []) ≡ with_first_answered (outcome, length transcript) (exchanges session transcript)

-- and where that is the last exchange, the step of its question becomes the step of both
abbrev pub AnswerStepsSession : Type 0
AnswerStepsSession = (session : ℕ) (transcript : List TranscriptEntry) (outcome : Outcome) (before : List Exchange) (asked : Command × ℕ) →
    AreAnswered before → exchanges session transcript ≡ before ++ unanswered asked ∷ [] →
    session_state session (transcript ++ written (Answer session outcome) ∷ []) ≡ session_step (session_after before) (answered asked (outcome, length transcript))

-- the operations of a history are those of its front and then those of its back
abbrev pub HistoriesJoin : Type 0
HistoriesJoin = (transcript : List TranscriptEntry) (front back : List TxnId) →
    operations_of transcript (front ++ back) ≡ operations_of transcript front ++ operations_of transcript back

-- the map after a history is its back's replay on the map after its front
abbrev pub BackReplaysAfterFront : Type 0
BackReplaysAfterFront = (transcript : List TranscriptEntry) (front back : List TxnId) →
    values_after transcript (front ++ back) ≡ after_operations (values_after transcript front) (operations_of transcript back)

-- operations give their replies exactly where the front does on the map, and the back on the map after the front
abbrev pub RepliesJoin : Type 0
RepliesJoin = (values : Values) (front back : List Operation) →
    RepliesAgree values (front ++ back) ↔ (RepliesAgree values front × RepliesAgree (after_operations values front) back)

-- a history has one verdict on a transcript
abbrev pub OneVerdict : Type 0
OneVerdict = (transcript : List TranscriptEntry) (history : List TxnId) (verdict other : Verdict) →
    IsVerdict transcript history verdict → IsVerdict transcript history other → verdict ≡ other

-- each operation of the members was answered
abbrev pub AreReplied : List TranscriptEntry → List TxnId → Type 0
AreReplied transcript history = (operation : Operation) → IsIn (operations_of transcript history) operation → IsSome operation.outcome

-- where they were, Same says that the members differ, have COMMIT, and that their operations give the transcript's replies
abbrev pub SameSaysReplay : Type 0
SameSaysReplay = (transcript : List TranscriptEntry) (history : List TxnId) → AreReplied transcript history →
    IsVerdict transcript history Same ↔ (AreFit (commands_of transcript) history × RepliesAgree no_values (operations_of transcript history))

-- a history that fits has the verdict Same
abbrev pub FitIsSame : Type 0
FitIsSame = (transcript : List TranscriptEntry) (history : List TxnId) → HistoryFits transcript history → IsVerdict transcript history Same

-- a written outcome that differs stands in the transcript at its place, as an answer to a member's session
abbrev pub DifferenceStands : Type 0
DifferenceStands = (transcript : List TranscriptEntry) (history : List TxnId) (place : ℕ) (told replayed : Outcome) →
    IsVerdict transcript history (First place told replayed) → (name : TxnId) × IsIn history name × StandsAt transcript place (written (Answer name.session told))
