-- What holds of each controller.
use Rattle.std.specs.Prelude.{◌≡◌, ℕ, ◌<◌, Bool, true, false, ◌||◌, nat_eq, map, All}
use Rattle.std.specs.List.{IsDistinct}
use Rattle.std.specs.List.Sorted.{IsNonDecreasingBy}
use Rattle.std.specs.Option.{option_map_or}
use Rattle.cl_types.specs.declared.operations.TxnId.{TxnId}
use Rattle.cl_types.specs.Placement.{IsNodeCount}
use Rattle.cl_types.specs.Transactions.{same_txn}
use Rattle.cl_control.specs.declared.entry.Phase.{Phase}
use Rattle.cl_control.specs.Calls.{is_decided, is_logged}
use Rattle.cl_control.specs.State.{Entry, ControlState, is_among, is_unanimous, phase_of}

-- the transaction is decided, be the log number of its Decide told or not
abbrev pub has_decide : Phase → Bool
has_decide phase = is_decided phase || is_logged phase

-- it is open here and decided
abbrev pub is_decided_here : ControlState → TxnId → Bool
is_decided_here state txn = option_map_or has_decide (phase_of state txn) false

-- it is open here, and the log number of its Decide was told
abbrev pub is_logged_here : ControlState → TxnId → Bool
is_logged_here state txn = option_map_or is_logged (phase_of state txn) false

-- what holds of each open transaction
pub record IsSoundEntry (nodes : ℕ) (entry : Entry) : Type 0 where
  -- the participants are virtual nodes, and differ
  pub below : All (λ v. v < nodes) entry.participants
  pub differ : IsDistinct nat_eq entry.participants
  -- votes are of participants, and differ
  pub votes : All (λ v. is_among v entry.participants ≡ true) entry.votes
  pub once : IsDistinct nat_eq entry.votes
  -- where it is decided, each participant has voted
  pub unanimous : has_decide entry.phase ≡ true → is_unanimous entry ≡ true

-- what holds of each controller
pub record IsSoundControl (state : ControlState) : Type 0 where
  -- there are 2, 4, 6 or 8 virtual nodes
  pub nodes : IsNodeCount state.nodes
  -- the names of open transactions differ
  pub names : IsDistinct same_txn (map (λ entry. entry.txn) state.transactions)
  pub entries : All (IsSoundEntry state.nodes) state.transactions
  -- Decides wait by log number, each once, and each of an open transaction
  pub ascending : IsNonDecreasingBy (λ told. told.number) state.waiting
  pub once : IsDistinct same_txn (map (λ told. told.txn) state.waiting)
  pub logged : All (λ told. is_logged_here state told.txn ≡ true) state.waiting
