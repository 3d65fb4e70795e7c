-- A session at the front: its commands have their turns one at a time.
use Rattle.std.specs.Prelude.{ℕ, ◌+◌, ◌%◌, ◌<◌, ◌^◌, nat_le, nat_lt, ◌==◌, Bool, true, false, ◌&&◌, ◌||◌, if◌then◌else◌, List, [], ◌∷◌, ◌++◌, length, fold, Option, Some, None, Result, Ok, Err}
use Rattle.cl_actor.specs.Core.{Noted, primary_in}
use Rattle.cl_front.specs.declared.current.Current.{Current}
use Rattle.cl_front.specs.declared.limits.TheConstants.{TXN_NUMBER_MAX}
use Rattle.cl_lines.specs.declared.out.Out.{Out}
use Rattle.cl_lines.specs.declared.out.Out.TheVariants as printed
use Rattle.cl_steps.specs.Steps.{sent}
use Rattle.cl_steps.specs.declared.steps.Outgoing.{Outgoing}
use Rattle.cl_types.specs.declared.answers.Outcome.{Outcome}
use Rattle.cl_types.specs.declared.answers.Outcome.TheVariants.{Committed, Aborted, NotTxn, InTxn, Full}
use Rattle.cl_types.specs.declared.limits.TheConstants.{OPERATIONS_MAX}
use Rattle.cl_types.specs.declared.operations.Command.{Command}
use Rattle.cl_types.specs.declared.operations.Command.TheVariants.{Begin, Work}
use Rattle.cl_types.specs.declared.operations.TxnId.{TxnId}
use Rattle.cl_wire.specs.Message as message

-- the commands that wait for their turn, how many transactions the session has begun, and the one that it is in
pub record SessionState : Type 0 where
  pub waiting : List Command
  pub begun : ℕ
  pub current : Option Current

-- a session that has begun nothing
abbrev pub no_session : SessionState
no_session = record { waiting = []; begun = 0; current = None }

-- whether a command of the transaction waits for its outcome
abbrev pub is_outstanding_in : Option Current → Bool
is_outstanding_in None = false
is_outstanding_in (Some current) = current.outstanding

-- whether a command of the session waits for its outcome
abbrev pub is_outstanding : SessionState → Bool
is_outstanding session = is_outstanding_in session.current

-- whether a command of the session waits, for its turn or for its outcome
abbrev pub is_busy : SessionState → Bool
is_busy session = is_outstanding session || nat_lt 0 (length session.waiting)

-- one more command waits
abbrev pub with_waiting : SessionState → Command → SessionState
with_waiting session command = record session { waiting = session.waiting ++ command ∷ [] }

-- what turns leave of a session, print and send, and whether they need a transaction number above the limit
pub record Turned : Type 0 where
  pub session : SessionState
  pub outs : List Out
  pub sends : List Outgoing
  pub spent : Bool

-- no turn yet
abbrev pub unturned : SessionState → Turned
unturned session = record { session = session; outs = []; sends = []; spent = false }

-- a turn after others
abbrev pub joined : Turned → Turned → Turned
joined first next = record {
  session = next.session;
  outs = first.outs ++ next.outs;
  sends = first.sends ++ next.sends;
  spent = first.spent || next.spent;
}

-- the transaction with its next command outstanding, and with so many operations
abbrev pub with_command : Current → ℕ → Current
with_command current operations = record { operations = operations; commands = current.commands + 1; outstanding = true }

-- the transaction with an operation more outstanding, or that it is full
abbrev pub with_operation : Current → Result Current Outcome
with_operation current =
    if nat_le OPERATIONS_MAX current.operations then Err Full else Ok (with_command current (current.operations + 1))

-- the transaction with the command outstanding, or the outcome that refuses the command
abbrev pub next_current : Option Current → Command → Result Current Outcome
next_current None Begin = Ok (record { operations = 0; commands = 0; outstanding = true })
next_current None other = Err NotTxn
next_current (Some current) Begin = Err InTxn
next_current (Some current) (Work table key op) = with_operation current
next_current (Some current) other = Ok (with_command current current.operations)

-- how many transactions the session has begun after a command that was sent
abbrev pub begun_after : Command → ℕ → ℕ
begun_after Begin begun = begun + 1
begun_after other begun = begun

-- whether the command needs a transaction number above the limit
abbrev pub is_spent_by : Command → ℕ → Bool
is_spent_by Begin begun = nat_le TXN_NUMBER_MAX begun
is_spent_by other begun = false

-- a command for its controller, the primary of the session's virtual node
abbrev pub command_sent : Noted → TxnId → ℕ → Command → Outgoing
command_sent noted txn number command =
    sent (primary_in noted (txn.session % noted.nodes)) (message.Command (txn.session % noted.nodes) txn number command)

-- an outcome is printed
abbrev pub answered : ℕ → SessionState → Outcome → Turned
answered s session outcome = record (unturned session) { outs = printed.Answer s outcome ∷ [] }

-- a command is sent to its controller, and is outstanding in this transaction
abbrev pub forwarded : Noted → ℕ → SessionState → Current → Command → Turned
forwarded noted s session current command = record {
  session = record session { begun = begun_after command session.begun; current = Some current };
  outs = [];
  sends = command_sent noted (record { session = s; number = begun_after command session.begun }) current.commands command ∷ [];
  spent = is_spent_by command session.begun;
}

-- a command is sent, or answered at once
abbrev pub turned_by : Noted → ℕ → SessionState → Command → Result Current Outcome → Turned
turned_by noted s session command (Ok current) = forwarded noted s session current command
turned_by noted s session command (Err outcome) = answered s session outcome

-- the turn of a command of session s, which has no command outstanding
abbrev pub turned : Noted → ℕ → SessionState → Command → Turned
turned noted s session command = turned_by noted s session command (next_current session.current command)

-- one more command: it has its turn, or waits where one is outstanding
abbrev pub offered : Noted → ℕ → Turned → Command → Turned
offered noted s so_far command =
    if is_outstanding so_far.session then record so_far { session = with_waiting so_far.session command }
    else joined so_far (turned noted s so_far.session command)

-- the turns of the commands that wait, in order, until one is outstanding
unfoldable pub taken : Noted → ℕ → SessionState → Turned
taken noted s session = fold (offered noted s) (unturned (record session { waiting = [] })) session.waiting

-- the transaction after the outcome of its command: COMMITTED and ABORTED end it
abbrev pub current_after : Outcome → Option Current → Option Current
current_after outcome None = None
current_after Committed (Some current) = None
current_after (Aborted cause) (Some current) = None
current_after outcome (Some current) = Some (record current { outstanding = false })

-- the session after the outcome of its command
abbrev pub session_after : Outcome → SessionState → SessionState
session_after outcome session = record session { current = current_after outcome session.current }

-- an outcome is printed, and the commands that wait have their turns
abbrev pub heard : Noted → ℕ → SessionState → Outcome → Turned
heard noted s session outcome = joined (answered s (session_after outcome session) outcome) (taken noted s (session_after outcome session))

-- whether the command of this number of the transaction waits for its outcome
abbrev pub is_awaited_in : Option Current → ℕ → Bool
is_awaited_in None number = false
is_awaited_in (Some current) number = current.outstanding && (current.commands == number)

-- the number of the transaction's next command has room in a packet
abbrev pub HasNextNumber : Option Current → Type 0
HasNextNumber None = Unit {0}
HasNextNumber (Some current) = current.commands + 1 < 2 ^ 32
