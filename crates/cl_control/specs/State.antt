-- What a controller knows of its open transactions.
use Rattle.std.specs.Prelude.{ℕ, Bool, not, if◌then◌else◌, nat_eq, List, [], ◌∷◌, ◌++◌, map, filter, find, Option, option_map}
use Rattle.std.specs.List.{list_any, list_all, range_with_len}
use Rattle.std.specs.Option.{option_map_or}
use Rattle.cl_types.specs.declared.operations.TxnId.{TxnId}
use Rattle.cl_types.specs.Transactions.{same_txn}
use Rattle.cl_control.specs.declared.entry.Phase.{Phase}
use Rattle.cl_control.specs.declared.entry.Phase.TheVariants.{Idle}
use Rattle.cl_control.specs.declared.entry.Told.{Told}

-- an open transaction
pub record Entry : Type 0 where
  pub txn : TxnId
  -- the virtual nodes that were asked to carry out an operation, in order of joining
  pub participants : List ℕ
  -- those of them that have voted, in order of their votes
  pub votes : List ℕ
  pub phase : Phase

-- a controller
pub record ControlState : Type 0 where
  -- how many virtual nodes there are
  pub nodes : ℕ
  -- the open transactions, in order of opening
  pub transactions : List Entry
  -- the Decides that were told and are not yet safe, by log number
  pub waiting : List Told

-- ---- virtual nodes

-- the virtual node is one of these
abbrev pub is_among : ℕ → List ℕ → Bool
is_among v vs = list_any (nat_eq v) vs

-- these virtual nodes, with one more at the end where it is new
abbrev pub joined : ℕ → List ℕ → List ℕ
joined v vs = if is_among v vs then vs else vs ++ v ∷ []

-- these of the virtual nodes, ascending
abbrev pub ascending : ℕ → List ℕ → List ℕ
ascending nodes vs = filter (λ v. is_among v vs) (range_with_len 0 nodes)

-- ---- open transactions

-- the transaction that begins: nobody was asked
abbrev pub new_entry : TxnId → Entry
new_entry txn = record { txn = txn; participants = []; votes = []; phase = Idle }

-- the open transaction of this name, if there is one
abbrev pub entry_named : TxnId → List Entry → Option Entry
entry_named txn entries = find (λ entry. same_txn txn entry.txn) entries

-- the transaction of this name changes
abbrev pub changed : TxnId → (Entry → Entry) → List Entry → List Entry
changed txn change entries = map (λ entry. if same_txn txn entry.txn then change entry else entry) entries

-- the transaction of this name is no longer open
abbrev pub without : TxnId → List Entry → List Entry
without txn entries = filter (λ entry. not (same_txn txn entry.txn)) entries

-- the transaction is in another phase
abbrev pub with_phase : Phase → Entry → Entry
with_phase phase entry = record entry { phase = phase }

-- the virtual node is a participant
abbrev pub with_participant : ℕ → Entry → Entry
with_participant v entry = record entry { participants = joined v entry.participants }

-- the virtual node has voted
abbrev pub with_vote : ℕ → Entry → Entry
with_vote v entry = record entry { votes = entry.votes ++ v ∷ [] }

-- each participant has voted
abbrev pub is_unanimous : Entry → Bool
is_unanimous entry = list_all (λ v. is_among v entry.votes) entry.participants

-- ---- a controller

-- no transaction is open
abbrev pub new_control : ℕ → ControlState
new_control nodes = record { nodes = nodes; transactions = []; waiting = [] }

-- the open transaction of this name, if there is one
abbrev pub entry_of : ControlState → TxnId → Option Entry
entry_of state txn = entry_named txn state.transactions

-- the transaction is open here
abbrev pub is_open_here : ControlState → TxnId → Bool
is_open_here state txn = list_any (λ entry. same_txn txn entry.txn) state.transactions

-- its phase, if it is open here
abbrev pub phase_of : ControlState → TxnId → Option Phase
phase_of state txn = option_map (λ entry. entry.phase) (entry_of state txn)

-- its participants, none where it is not open here
abbrev pub participants_of : ControlState → TxnId → List ℕ
participants_of state txn = option_map_or (λ entry. entry.participants) (entry_of state txn) []

-- one more transaction is open
abbrev pub with_new : ControlState → TxnId → ControlState
with_new state txn = record state { transactions = state.transactions ++ new_entry txn ∷ [] }

-- an open transaction changes
abbrev pub with_changed : ControlState → TxnId → (Entry → Entry) → ControlState
with_changed state txn change = record state { transactions = changed txn change state.transactions }

-- a transaction is no longer open
abbrev pub without_entry : ControlState → TxnId → ControlState
without_entry state txn = record state { transactions = without txn state.transactions }
