-- What holds of controllers, whatever is called.
use Rattle.std.specs.Prelude.{◌≡◌, ℕ, ◌≤◌, true, false, ◌⊎◌, List, [], Some, Contains}
use Rattle.cl_types.specs.declared.answers.Answer.{Answer}
use Rattle.cl_types.specs.declared.answers.Outcome.{Outcome}
use Rattle.cl_types.specs.declared.answers.Outcome.TheVariants.{Committed}
use Rattle.cl_types.specs.declared.operations.Command.{Command}
use Rattle.cl_types.specs.declared.operations.TxnId.{TxnId}
use Rattle.cl_types.specs.Placement.{IsNodeCount}
use Rattle.cl_control.specs.declared.acts.Act.{Act}
use Rattle.cl_control.specs.declared.acts.Act.TheVariants.{Finish, Decide, Say}
use Rattle.cl_control.specs.declared.entry.Told.{Told}
use Rattle.cl_control.specs.Calls.{MayCommand, command_acts, after_command, answer_acts, after_answer, vote_acts, after_vote, counts_number, is_decided, after_decided_at, safe_acts, after_safe}
use Rattle.cl_control.specs.Sound.{IsSoundControl, is_decided_here}
use Rattle.cl_control.specs.State.{Entry, ControlState, is_unanimous, new_control, is_open_here, entry_of}

-- a call of a controller
pub data Call : Type 0 where
  command : TxnId → ℕ → Command → Call
  answer : ℕ → TxnId → ℕ → Answer → Call
  vote : ℕ → TxnId → Call
  decided_at : TxnId → ℕ → Call
  safe_up_to : ℕ → Call

-- what it gives
abbrev pub acts_of : ControlState → Call → List Act
acts_of state (command txn number what) = command_acts state txn number what
acts_of state (answer v txn number reply) = answer_acts state v txn number reply
acts_of state (vote v txn) = vote_acts state v txn
acts_of state (decided_at txn number) = []
acts_of state (safe_up_to number) = safe_acts state number

-- the state that it leaves
abbrev pub after_call : ControlState → Call → ControlState
after_call state (command txn number what) = after_command state txn number what
after_call state (answer v txn number reply) = after_answer state v txn number reply
after_call state (vote v txn) = after_vote state v txn
after_call state (decided_at txn number) = after_decided_at state txn number
after_call state (safe_up_to number) = after_safe state number

-- it may be made: an answer, a vote and a safe log number always
abbrev pub MayCall : ControlState → Call → Type 0
MayCall state (command txn number what) = MayCommand state txn what
MayCall state (answer v txn number reply) = Unit {0}
MayCall state (vote v txn) = Unit {0}
MayCall state (decided_at txn number) = counts_number state txn ≡ true
MayCall state (safe_up_to number) = Unit {0}

-- the act is among those of the call
abbrev pub Gives : ControlState → Call → Act → Type 0
Gives state call act = Contains (acts_of state call) act

-- the Decide of the transaction waits, under a log number that is at most this one
pub record IsSafe (state : ControlState) (txn : TxnId) (number : ℕ) : Type 0 where
  pub told : Told
  pub waits : Contains state.waiting told
  pub of : told.txn ≡ txn
  pub within : told.number ≤ number

-- COMMITTED is said only once the Decide is safe
abbrev pub CommittedWhenSafe : Type 0
CommittedWhenSafe = (state : ControlState) (call : Call) (txn : TxnId) (number : ℕ) → Gives state call (Say txn number Committed) →
    (safe : ℕ) × (call ≡ safe_up_to safe) × IsSafe state txn safe

-- the transaction was open and not decided, and now it is: each participant has voted
pub record BecomesDecided (before after : ControlState) (txn : TxnId) : Type 0 where
  pub open_before : is_open_here before txn ≡ true
  pub undecided : is_decided_here before txn ≡ false
  pub entry : Entry
  pub found : entry_of after txn ≡ Some entry
  pub decided : is_decided entry.phase ≡ true
  pub voted : is_unanimous entry ≡ true

-- a transaction is decided once, with every vote
abbrev pub DecideHasEveryVote : Type 0
DecideHasEveryVote = (state : ControlState) (call : Call) (txn : TxnId) → MayCall state call → Gives state call (Decide txn) → BecomesDecided state (after_call state call) txn

-- a transaction that is decided stays so until COMMITTED is said, and is not aborted
pub record StaysDecided (state : ControlState) (call : Call) (txn : TxnId) : Type 0 where
  -- no participant is told of an abort
  pub no_abort : (v : ℕ) → ¬ Gives state call (Finish v txn false)
  -- nothing else is said of it
  pub says : (number : ℕ) (outcome : Outcome) → Gives state call (Say txn number outcome) → outcome ≡ Committed
  pub stays : (is_decided_here (after_call state call) txn ≡ true) ⊎ ((number : ℕ) × Gives state call (Say txn number Committed))

-- nothing aborts a transaction that is decided
abbrev pub NothingAbortsAfterDecide : Type 0
NothingAbortsAfterDecide = (state : ControlState) (call : Call) (txn : TxnId) → MayCall state call → is_decided_here state txn ≡ true → StaysDecided state call txn

-- the call gives no act and changes nothing
abbrev pub IsWithoutEffect : ControlState → Call → Type 0
IsWithoutEffect state call = (acts_of state call ≡ []) × (after_call state call ≡ state)

-- an answer or a vote for a transaction that is not open has no effect
abbrev pub StrangersChangeNothing : Type 0
StrangersChangeNothing = (state : ControlState) (v : ℕ) (txn : TxnId) → is_open_here state txn ≡ false →
    ((number : ℕ) (reply : Answer) → IsWithoutEffect state (answer v txn number reply)) × IsWithoutEffect state (vote v txn)

-- a new controller is sound
abbrev pub NewIsSound : Type 0
NewIsSound = (nodes : ℕ) → IsNodeCount nodes → IsSoundControl (new_control nodes)

-- and each call keeps it so
abbrev pub CallsKeepSound : Type 0
CallsKeepSound = (state : ControlState) (call : Call) → IsSoundControl state → MayCall state call → IsSoundControl (after_call state call)
