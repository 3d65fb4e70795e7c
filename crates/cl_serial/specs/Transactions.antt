-- The transactions of a session, cut from its exchanges.
use Rattle.std.specs.Prelude.{ℕ, zero, suc, Bool, true, false, List, [], ◌∷◌, ◌++◌, fold, if◌then◌else◌, Option, Some, None, slice_get}
use Rattle.std.specs.Option.{option_to_list}
use Rattle.cl_types.specs.declared.operations.Command.{Command}
use Rattle.cl_types.specs.declared.operations.Command.TheVariants.{Begin, Work, Commit, Abort}
use Rattle.cl_types.specs.declared.operations.TxnId.{TxnId}
use Rattle.cl_types.specs.declared.answers.Outcome.{Outcome}
use Rattle.cl_types.specs.declared.answers.Outcome.TheVariants.{Done, Begun, Committed, Aborted, NotTxn, InTxn, Full}
use Rattle.cl_serial.specs.Transcript.{TranscriptEntry}
use Rattle.cl_serial.specs.Exchanges.{Exchange, exchanges, in_turn, outcome_of}

-- a transaction: the position of its BEGIN line, and the exchanges of its commands
pub record Transaction : Type 0 where
  pub begin : ℕ
  pub commands : List Exchange

-- a session: its ended transactions in order, and the one that it is in
pub record Session : Type 0 where
  pub ended : List Transaction
  pub current : Option Transaction

-- a session is outside a transaction at first
abbrev pub new_session : Session
new_session = record { ended = []; current = None }

-- whether a command is BEGIN
abbrev pub is_begin : Command → Bool
is_begin Begin = true
is_begin (Work table key op) = false
is_begin Commit = false
is_begin Abort = false

-- an outcome that leaves its line out of the transaction
abbrev pub is_passed_over : Option Outcome → Bool
is_passed_over None = false
is_passed_over (Some (Done reply)) = false
is_passed_over (Some Begun) = false
is_passed_over (Some Committed) = false
is_passed_over (Some (Aborted cause)) = false
is_passed_over (Some NotTxn) = false
is_passed_over (Some InTxn) = true
is_passed_over (Some Full) = true

-- an outcome that puts the session outside again
abbrev pub is_end : Option Outcome → Bool
is_end None = false
is_end (Some (Done reply)) = false
is_end (Some Begun) = false
is_end (Some Committed) = true
is_end (Some (Aborted cause)) = true
is_end (Some NotTxn) = false
is_end (Some InTxn) = false
is_end (Some Full) = false

-- a transaction with one more command
abbrev pub with_command : Transaction → Exchange → Transaction
with_command transaction exchange = record { begin = transaction.begin; commands = transaction.commands ++ exchange ∷ [] }

-- outside a transaction BEGIN begins the next one, and all else is passed over
abbrev pub step_outside : List Transaction → Exchange → Session
step_outside ended exchange =
    if is_begin exchange.command then record { ended = ended; current = Some (record { begin = exchange.line; commands = [] }) }
    else record { ended = ended; current = None }

-- in a transaction each line is a command of it, unless it is passed over; the outcome may end it
abbrev pub step_inside : List Transaction → Transaction → Exchange → Session
step_inside ended current exchange =
    if is_passed_over (outcome_of exchange) then record { ended = ended; current = Some current }
    else (if is_end (outcome_of exchange) then record { ended = ended ++ with_command current exchange ∷ []; current = None }
    else record { ended = ended; current = Some (with_command current exchange) })

-- a session after one more exchange
unfoldable pub session_step : Session → Exchange → Session
session_step session exchange = elim session.current [ None ↦ step_outside session.ended exchange | Some current ↦ step_inside session.ended current exchange ]

-- a session after these exchanges
abbrev pub session_after : List Exchange → Session
session_after list = fold session_step new_session list

-- a session as the transcript shows it
abbrev pub session_state : ℕ → List TranscriptEntry → Session
session_state session transcript = session_after (in_turn (exchanges session transcript))

-- the transactions of a session, the one that it is in last
abbrev pub transactions : ℕ → List TranscriptEntry → List Transaction
transactions session transcript = let state = session_state session transcript in state.ended ++ option_to_list state.current

-- the transaction of this number, counted from 1
abbrev pub numbered : List Transaction → ℕ → Option Transaction
numbered list zero = None
numbered list (suc k) = slice_get list k

-- the transaction of a name
abbrev pub transaction_of : List TranscriptEntry → TxnId → Option Transaction
transaction_of transcript name = numbered (transactions name.session transcript) name.number

-- the exchanges of a transaction's commands; none where there is no transaction
abbrev pub commands_in : Option Transaction → List Exchange
commands_in None = []
commands_in (Some transaction) = transaction.commands

-- the commands of a transaction, with their answers
abbrev pub commands_of : List TranscriptEntry → TxnId → List Exchange
commands_of transcript name = commands_in (transaction_of transcript name)
