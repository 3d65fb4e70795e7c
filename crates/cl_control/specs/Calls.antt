-- What each call of a controller gives, and the state that it leaves.
use Rattle.std.specs.Prelude.{◌≡◌, ℕ, Bool, true, false, ◌&&◌, not, if◌then◌else◌, nat_eq, nat_le, nat_lt, List, [], ◌∷◌, ◌++◌, map, filter, flat_map, Option, Some, None}
use Rattle.std.specs.List.{list_any}
use Rattle.std.specs.Option.{option_map_or}
use Rattle.cl_types.specs.declared.answers.AbortCause.{AbortCause}
use Rattle.cl_types.specs.declared.answers.AbortCause.TheVariants.{Conflict, Client, Memory}
use Rattle.cl_types.specs.declared.answers.Answer.{Answer}
use Rattle.cl_types.specs.declared.answers.Answer.TheVariants as answer
use Rattle.cl_types.specs.declared.answers.Outcome.TheVariants.{Done, Begun, Committed, Aborted}
use Rattle.cl_types.specs.declared.operations.Command.{Command}
use Rattle.cl_types.specs.declared.operations.Command.TheVariants.{Begin, Work, Commit, Abort}
use Rattle.cl_types.specs.declared.operations.TxnId.{TxnId}
use Rattle.cl_types.specs.Placement.{virtual_node_of}
use Rattle.cl_types.specs.Transactions.{same_txn}
use Rattle.cl_control.specs.declared.acts.Act.{Act}
use Rattle.cl_control.specs.declared.acts.Act.TheVariants.{Ask, Prepare, Finish, Decide, Say}
use Rattle.cl_control.specs.declared.acts.Notice.{Notice}
use Rattle.cl_control.specs.declared.acts.Notice.TheVariants as notice
use Rattle.cl_control.specs.declared.entry.Phase.{Phase}
use Rattle.cl_control.specs.declared.entry.Phase.TheVariants.{Idle, Asked, Preparing, Decided, Logged}
use Rattle.cl_control.specs.declared.entry.Told.{Told}
use Rattle.cl_control.specs.State.{Entry, ControlState, is_among, ascending, with_phase, with_participant, with_vote, is_unanimous, is_open_here, entry_of, phase_of, participants_of, with_new, with_changed, without_entry}

-- ---- what participants are told

-- the act that tells a virtual node
abbrev pub act_of : Notice → TxnId → ℕ → Act
act_of notice.Prepare txn v = Prepare v txn
act_of (notice.Finish commit) txn v = Finish v txn commit

-- one Prepare to each participant, ascending
abbrev pub prepares : ControlState → TxnId → List Act
prepares state txn = map (λ v. Prepare v txn) (ascending state.nodes (participants_of state txn))

-- one Finish to each participant, ascending
abbrev pub finishes : ControlState → TxnId → Bool → List Act
finishes state txn commit = map (λ v. Finish v txn commit) (ascending state.nodes (participants_of state txn))

-- each participant is told of the abort, and the session
abbrev pub abort_acts : ControlState → TxnId → ℕ → AbortCause → List Act
abort_acts state txn number cause = finishes state txn false ++ Say txn number (Aborted cause) ∷ []

-- ---- a command

-- COMMIT is decided at once where there is no participant
abbrev pub commit_phase : ℕ → List ℕ → Phase
commit_phase number [] = Decided number
commit_phase number (v ∷ vs) = Preparing number

-- so the participants are asked for their votes, or the Decide is appended
abbrev pub commit_acts : ControlState → TxnId → List ℕ → List Act
commit_acts state txn [] = Decide txn ∷ []
commit_acts state txn (v ∷ vs) = prepares state txn

-- the acts of a command
unfoldable pub command_acts : ControlState → TxnId → ℕ → Command → List Act
command_acts state txn number Begin = Say txn number Begun ∷ []
command_acts state txn number (Work table key op) = Ask (virtual_node_of key state.nodes) txn number table key op ∷ []
command_acts state txn number Commit = commit_acts state txn (participants_of state txn)
command_acts state txn number Abort = abort_acts state txn number Client

-- the command of this number, an operation, was sent to the virtual node
abbrev pub asked : ℕ → ℕ → Entry → Entry
asked number v entry = with_phase (Asked number v) (with_participant v entry)

-- COMMIT, the command of this number, came
abbrev pub committing : ℕ → Entry → Entry
committing number entry = with_phase (commit_phase number entry.participants) entry

-- the state after a command
unfoldable pub after_command : ControlState → TxnId → ℕ → Command → ControlState
after_command state txn number Begin = with_new state txn
after_command state txn number (Work table key op) = with_changed state txn (asked number (virtual_node_of key state.nodes))
after_command state txn number Commit = with_changed state txn (committing number)
after_command state txn number Abort = without_entry state txn

-- ---- an answer

-- the command of this number waits for the answer of this virtual node
abbrev pub is_asked : ℕ → ℕ → Phase → Bool
is_asked number v (Asked command w) = nat_eq number command && nat_eq v w
is_asked number v Idle = false
is_asked number v (Preparing command) = false
is_asked number v (Decided command) = false
is_asked number v (Logged command) = false

-- an answer counts exactly where it is waited for
abbrev pub counts_answer : ControlState → ℕ → TxnId → ℕ → Bool
counts_answer state v txn number = option_map_or (is_asked number v) (phase_of state txn) false

-- the acts of an answer that counts
abbrev pub answered_acts : ControlState → TxnId → ℕ → Answer → List Act
answered_acts state txn number (answer.Done reply) = Say txn number (Done reply) ∷ []
answered_acts state txn number (answer.Refused holder) = abort_acts state txn number (Conflict holder)
answered_acts state txn number answer.NoMemory = abort_acts state txn number Memory

-- the state after an answer that counts
abbrev pub after_answered : ControlState → TxnId → Answer → ControlState
after_answered state txn (answer.Done reply) = with_changed state txn (with_phase Idle)
after_answered state txn (answer.Refused holder) = without_entry state txn
after_answered state txn answer.NoMemory = without_entry state txn

-- the acts of an answer
unfoldable pub answer_acts : ControlState → ℕ → TxnId → ℕ → Answer → List Act
answer_acts state v txn number answer = if counts_answer state v txn number then answered_acts state txn number answer else []

-- the state after an answer
unfoldable pub after_answer : ControlState → ℕ → TxnId → ℕ → Answer → ControlState
after_answer state v txn number answer = if counts_answer state v txn number then after_answered state txn answer else state

-- ---- a vote

-- COMMIT waits for votes
abbrev pub is_preparing : Phase → Bool
is_preparing (Preparing command) = true
is_preparing Idle = false
is_preparing (Asked command v) = false
is_preparing (Decided command) = false
is_preparing (Logged command) = false

-- the transaction waits for the vote of this virtual node
abbrev pub awaits_vote : ℕ → Entry → Bool
awaits_vote v entry = is_preparing entry.phase && is_among v entry.participants && not (is_among v entry.votes)

-- a vote counts exactly where it is waited for
abbrev pub counts_vote : ControlState → ℕ → TxnId → Bool
counts_vote state v txn = option_map_or (awaits_vote v) (entry_of state txn) false

-- with this vote, each participant has voted
abbrev pub is_last_vote : ControlState → ℕ → TxnId → Bool
is_last_vote state v txn = option_map_or (λ entry. is_unanimous (with_vote v entry)) (entry_of state txn) false

-- the phase once each participant has voted
abbrev pub decided : Phase → Phase
decided (Preparing command) = Decided command
decided Idle = Idle
decided (Asked command v) = Asked command v
decided (Decided command) = Decided command
decided (Logged command) = Logged command

-- the virtual node has voted: with the last vote, the transaction is decided
abbrev pub voted : ℕ → Entry → Entry
voted v entry = if is_unanimous (with_vote v entry) then with_phase (decided entry.phase) (with_vote v entry) else with_vote v entry

-- the acts of a vote
unfoldable pub vote_acts : ControlState → ℕ → TxnId → List Act
vote_acts state v txn = if counts_vote state v txn && is_last_vote state v txn then Decide txn ∷ [] else []

-- the state after a vote
unfoldable pub after_vote : ControlState → ℕ → TxnId → ControlState
after_vote state v txn = if counts_vote state v txn then with_changed state txn (voted v) else state

-- ---- the log

-- the phase once the log number of the Decide is told
abbrev pub logged : Phase → Phase
logged (Decided command) = Logged command
logged Idle = Idle
logged (Asked command v) = Asked command v
logged (Preparing command) = Preparing command
logged (Logged command) = Logged command

-- COMMIT is decided, and the log number of the Decide is not told yet
abbrev pub is_decided : Phase → Bool
is_decided (Decided command) = true
is_decided Idle = false
is_decided (Asked command v) = false
is_decided (Preparing command) = false
is_decided (Logged command) = false

-- the log number of the Decide was told
abbrev pub is_logged : Phase → Bool
is_logged (Logged command) = true
is_logged Idle = false
is_logged (Asked command v) = false
is_logged (Preparing command) = false
is_logged (Decided command) = false

-- those with a number at most this one
abbrev pub up_to : ℕ → List Told → List Told
up_to number tolds = filter (λ told. nat_le told.number number) tolds

-- those with a number above this one
abbrev pub above : ℕ → List Told → List Told
above number tolds = filter (λ told. nat_lt number told.number) tolds

-- one more, behind all with a number at most its own
abbrev pub with_told : Told → List Told → List Told
with_told told tolds = up_to told.number tolds ++ told ∷ above told.number tolds

-- a log number counts exactly where the transaction is decided, and none was told
abbrev pub counts_number : ControlState → TxnId → Bool
counts_number state txn = option_map_or is_decided (phase_of state txn) false

-- the log number of its Decide is told
abbrev pub numbered : Entry → Entry
numbered entry = with_phase (logged entry.phase) entry

-- the number of the Decide is told: it waits to be safe
abbrev pub with_number : ControlState → TxnId → ℕ → ControlState
with_number state txn number = record (with_changed state txn numbered) {
  waiting = with_told (record { number = number; txn = txn }) state.waiting;
}

-- the state after the log number of a Decide was told
unfoldable pub after_decided_at : ControlState → TxnId → ℕ → ControlState
after_decided_at state txn number = if counts_number state txn then with_number state txn number else state

-- a Decide that is safe: each participant is told of the commit, and the session
abbrev pub committed_acts : ControlState → TxnId → Option Phase → List Act
committed_acts state txn (Some (Logged command)) = finishes state txn true ++ Say txn command Committed ∷ []
committed_acts state txn (Some Idle) = []
committed_acts state txn (Some (Asked command v)) = []
committed_acts state txn (Some (Preparing command)) = []
committed_acts state txn (Some (Decided command)) = []
committed_acts state txn None = []

-- the same, by the state
abbrev pub acts_of_told : ControlState → Told → List Act
acts_of_told state told = committed_acts state told.txn (phase_of state told.txn)

-- one of these is of the transaction
abbrev pub is_told : TxnId → List Told → Bool
is_told txn tolds = list_any (λ told. same_txn told.txn txn) tolds

-- the log is safe up to this number: the transactions of which a Decide waited up to it have ended
abbrev pub without_told : List Told → List Entry → List Entry
without_told tolds entries = filter (λ entry. not (is_logged entry.phase && is_told entry.txn tolds)) entries

-- the acts once the log is safe up to a number, in order of the Decides in the log
unfoldable pub safe_acts : ControlState → ℕ → List Act
safe_acts state number = flat_map (acts_of_told state) (up_to number state.waiting)

-- the state once the log is safe up to a number
unfoldable pub after_safe : ControlState → ℕ → ControlState
after_safe state number = record state {
  transactions = without_told (up_to number state.waiting) state.transactions;
  waiting = above number state.waiting;
}

-- ---- what a call asks for

-- BEGIN is of a transaction that is not open here, another command of one that waits for its next command
abbrev pub MayCommand : ControlState → TxnId → Command → Type 0
MayCommand state txn Begin = is_open_here state txn ≡ false
MayCommand state txn (Work table key op) = phase_of state txn ≡ Some Idle
MayCommand state txn Commit = phase_of state txn ≡ Some Idle
MayCommand state txn Abort = phase_of state txn ≡ Some Idle
