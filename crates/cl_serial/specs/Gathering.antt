-- What the checker gathers from a transcript: each session's questions and answers, and its transactions.
use Rattle.std.specs.Prelude.{ℕ, List, [], ◌++◌, Option, Some, None}
use Rattle.std.specs.Option.{option_to_list}
use Rattle.std.specs.Ordering.{nat_cmp}
use Rattle.std.specs.BTreeMap.{BTreeMap, get}
use Rattle.cl_types.specs.GrowingList.{items}
use Rattle.cl_types.specs.declared.growing_list.GrowingList.{GrowingList}
use Rattle.cl_types.specs.declared.operations.Command.{Command}
use Rattle.cl_types.specs.declared.operations.TxnId.{TxnId}
use Rattle.cl_types.specs.declared.answers.Outcome.{Outcome}
use Rattle.cl_serial.specs.Transcript.{TranscriptEntry, asked_in, answered_in, questions, answers}
use Rattle.cl_serial.specs.Exchanges.{Exchange, pair_up, in_turn}
use Rattle.cl_serial.specs.Transactions.{Transaction, Session, session_after, numbered, commands_in}

-- what a session asked and was answered, in order
pub record SessionLog : Type 0 where
  pub asked : List (Command × ℕ)
  pub given : List (Outcome × ℕ)

-- nothing yet
abbrev pub empty_log : SessionLog
empty_log = record { asked = []; given = [] }

-- a session's log of a transcript
abbrev pub log_of : ℕ → List TranscriptEntry → SessionLog
log_of session transcript = record { asked = questions session transcript; given = answers session transcript }

-- with what these ask and answer after it
abbrev pub with_more : SessionLog → List (Command × ℕ) → List (Outcome × ℕ) → SessionLog
with_more log asked given = record { asked = log.asked ++ asked; given = log.given ++ given }

-- with what an entry asks and answers in the session
abbrev pub with_entry : ℕ → ℕ → TranscriptEntry → SessionLog → SessionLog
with_entry session position entry log = with_more log (asked_in session position entry) (answered_in session position entry)

-- a log, where there is one
abbrev pub logged : Option SessionLog → SessionLog
logged None = empty_log
logged (Some log) = log

-- the log that a map has of a session
abbrev pub log_at : BTreeMap ℕ SessionLog → ℕ → SessionLog
log_at logs session = logged (get nat_cmp logs session)

-- the session that a log tells of
abbrev pub session_in : SessionLog → Session
session_in log = session_after (in_turn (pair_up log.asked log.given))

-- all transactions of a session, the one that it is in last
abbrev pub all_transactions : Session → List Transaction
all_transactions session = session.ended ++ option_to_list session.current

-- the transactions that a log tells of
abbrev pub transactions_in : SessionLog → List Transaction
transactions_in log = all_transactions (session_in log)

-- the transactions that a list has, where there is one
abbrev pub listed : Option (GrowingList Transaction) → List Transaction
listed None = []
listed (Some list) = items list

-- the transactions that a map has of a session
abbrev pub transactions_at : BTreeMap ℕ (GrowingList Transaction) → ℕ → List Transaction
transactions_at sessions session = listed (get nat_cmp sessions session)

-- the commands that a map has of a transaction
abbrev pub commands_at : BTreeMap ℕ (GrowingList Transaction) → TxnId → List Exchange
commands_at sessions name = commands_in (numbered (transactions_at sessions name.session) name.number)
