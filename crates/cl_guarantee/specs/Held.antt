-- What every member of a virtual node holds of the transactions that are firm: neighbour write-ahead logging.
use Rattle.std.specs.Prelude.{◌≡◌, ℕ, ◌<◌, true, ◌&&◌, List, ◌++◌}
use Rattle.cl_held.specs.Work.{is_work}
use Rattle.cl_log.specs.Kind.{is_of}
use Rattle.cl_log.specs.LogEntry.{LogEntry}
use Rattle.cl_log.specs.Open.{is_among}
use Rattle.cl_members.specs.Members.{history_after, IsReplicaAfter, IsStandbyAfter}
use Rattle.cl_node.specs.Addressing.{home_in}
use Rattle.cl_runs.specs.World.{Shape, Run}
use Rattle.cl_serial.specs.Serial.{IsIn}
use Rattle.cl_types.specs.declared.operations.TxnId.{TxnId}
use Rattle.cl_vnode.specs.Replica.{ReplicaState}

-- a virtual node has a primary and a standby
pub record HasMembers (shape : Shape) (run : Run) (v : ℕ) : Type 0 where
  pub primary : ReplicaState
  pub at_primary : IsReplicaAfter shape run v primary
  pub standby : ReplicaState
  pub at_standby : IsStandbyAfter shape run v standby

-- so has each
abbrev pub HaveMembers : Shape → Run → Type 0
HaveMembers shape run = (v : ℕ) → v < shape.nodes → HasMembers shape run v

-- the log of a standby is a first part of its primary's
abbrev pub LogsAreShared : Shape → Run → Type 0
LogsAreShared shape run = (v : ℕ) (primary standby : ReplicaState) → IsReplicaAfter shape run v primary → IsStandbyAfter shape run v standby →
    (rest : List LogEntry) × (primary.part.log ≡ standby.part.log ++ rest)

-- both members of the home of a transaction have its decision, and of its locks, writes and votes the standby's log of each virtual node has what the primary's has
pub record IsHeldAfter (shape : Shape) (run : Run) (txn : TxnId) : Type 0 where
  pub at_primary : (primary : ReplicaState) → IsReplicaAfter shape run (home_in shape.nodes txn) primary → is_among txn primary.decisions ≡ true
  pub at_standby : (standby : ReplicaState) → IsStandbyAfter shape run (home_in shape.nodes txn) standby → is_among txn standby.decisions ≡ true
  pub work : (v : ℕ) (primary standby : ReplicaState) (entry : LogEntry) → IsReplicaAfter shape run v primary → IsStandbyAfter shape run v standby →
      (is_of txn entry.content && is_work entry.content) ≡ true → IsIn primary.part.log entry → IsIn standby.part.log entry

-- so it is of each firm transaction
abbrev pub AreHeldAfter : Shape → Run → Type 0
AreHeldAfter shape run = (txn : TxnId) → is_among txn (history_after shape run) ≡ true → IsHeldAfter shape run txn

-- two replicas have the same log, store, locks and decisions
pub record AreEqual (primary standby : ReplicaState) : Type 0 where
  pub part : primary.part ≡ standby.part
  pub decisions : primary.decisions ≡ standby.decisions

-- so have both members of each virtual node after a run
abbrev pub MembersAreEqual : Shape → Run → Type 0
MembersAreEqual shape run = (v : ℕ) (primary standby : ReplicaState) → IsReplicaAfter shape run v primary → IsStandbyAfter shape run v standby →
    AreEqual primary standby
