-- A virtual node is one log: that of the primary is that of the standby and what is on its way to it.
use Rattle.std.specs.Prelude.{◌≡◌, ℕ, ◌+◌, ◌-◌, ◌<◌, nat_eq, Bool, false, ◌⊎◌, List, [], ◌++◌, map, filter, fold, All, Contains}
use Rattle.cl_backup.specs.Decisions.{decisions_from}
use Rattle.cl_log.specs.LogEntry.{LogEntry}
use Rattle.cl_node.specs.Members.{standby_node}
use Rattle.cl_part.specs.State.{State, new_state, after_record}
use Rattle.cl_runs.specs.World.{Shape}
use Rattle.cl_vnode.specs.Replica.{ReplicaState}
use Rattle.cl_wire.specs.Message.{Content, Log, LogAck}
use Rattle.cl_pairs.specs.Pairs.{PairWorld}

-- the participant whose log has these records
unfoldable pub part_of : List LogEntry → State
part_of log = fold (λ state entry. after_record state entry.content) (new_state 1) log

-- a replica is what its log says: its store, its locks and its decisions
pub record IsOfLog (replica : ReplicaState) : Type 0 where
  pub part : replica.part ≡ part_of replica.part.log
  pub decisions : replica.decisions ≡ decisions_from [] replica.part.log

-- the message is a log record of this virtual node
abbrev pub is_log_of : ℕ → Content → Bool
is_log_of v (Log u number entry) = nat_eq v u
is_log_of v content = false

-- a log entry on its way to the standby
abbrev pub log_of : ℕ → LogEntry → Content
log_of v entry = Log v entry.number entry.content

-- what is acknowledged was taken
abbrev pub IsAckBelow : ℕ → ℕ → Content → Type 0
IsAckBelow v next (LogAck u number) = v ≡ u → number < next
IsAckBelow v next content = Unit {0}

-- what the standby took last is acknowledged, or its acknowledgement is on its way
abbrev pub IsHeard : ℕ → ℕ → ℕ → List Content → Type 0
IsHeard v acked next acks = (acked + 1 ≡ next) ⊎ Contains acks (LogAck v (next - 1))

-- the virtual node is one log
pub record IsOneLog (nodes : ℕ) (pairs : PairWorld) (v : ℕ) : Type 0 where
  -- the entries that are on their way to the standby
  pub way : List LogEntry
  -- the primary's log is the standby's and these
  pub logs : (pairs.primaries v).part.log ≡ (pairs.standbys v).part.log ++ way
  pub ships : filter (is_log_of v) (pairs.mail v (standby_node nodes v)) ≡ map (log_of v) way
  -- both are what their logs say
  pub primary : IsOfLog (pairs.primaries v)
  pub standby : IsOfLog (pairs.standbys v)
  -- what the standby acknowledges, and what the primary counts as acknowledged, was taken
  pub acks : All (IsAckBelow v (pairs.standbys v).part.next) (pairs.mail (standby_node nodes v) v)
  pub acked : (pairs.primaries v).modes.acked < (pairs.standbys v).part.next
  pub heard : IsHeard v (pairs.primaries v).modes.acked (pairs.standbys v).part.next (pairs.mail (standby_node nodes v) v)

-- so is each
abbrev pub AreOneLog : Shape → PairWorld → Type 0
AreOneLog shape pairs = (v : ℕ) → v < shape.nodes → IsOneLog shape.nodes pairs v
