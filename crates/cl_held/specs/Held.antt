-- What every member of a virtual node holds of the transactions that are firm.
use Rattle.std.specs.Prelude.{◌≡◌, ℕ, ◌<◌, true, ◌&&◌}
use Rattle.cl_log.specs.Kind.{is_of}
use Rattle.cl_log.specs.LogEntry.{LogEntry}
use Rattle.cl_log.specs.Open.{is_among}
use Rattle.cl_node.specs.Addressing.{home_in}
use Rattle.cl_pairs.specs.Pairs.{PairWorld}
use Rattle.cl_runs.specs.World.{Shape}
use Rattle.cl_serial.specs.Serial.{IsIn}
use Rattle.cl_types.specs.declared.operations.TxnId.{TxnId}
use Rattle.cl_held.specs.Work.{is_work}

-- both members of the home of a transaction have its decision, and of its work the standby's log of each virtual node has what the primary's has
pub record IsHeld (shape : Shape) (pairs : PairWorld) (txn : TxnId) : Type 0 where
  pub at_primary : is_among txn (pairs.primaries (home_in shape.nodes txn)).decisions ≡ true
  pub at_standby : is_among txn (pairs.standbys (home_in shape.nodes txn)).decisions ≡ true
  pub work : (v : ℕ) (entry : LogEntry) → v < shape.nodes → IsIn (pairs.primaries v).part.log entry → (is_of txn entry.content && is_work entry.content) ≡ true →
      IsIn (pairs.standbys v).part.log entry

-- so is each firm transaction
abbrev pub HeldByEveryMember : Shape → PairWorld → Type 0
HeldByEveryMember shape pairs = (txn : TxnId) → is_among txn pairs.history ≡ true → IsHeld shape pairs txn
