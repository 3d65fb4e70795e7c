-- The laws of the replicas of every firm run.
use Rattle.std.specs.Prelude.{◌≡◌, ℕ, ◌<◌, false, List, ◌++◌}
use Rattle.cl_log.specs.LogEntry.{LogEntry}
use Rattle.cl_log.specs.Open.{is_among}
use Rattle.cl_roster.specs.Roster.{IsClusterSize}
use Rattle.cl_runs.specs.World.{Shape}
use Rattle.cl_serial.specs.PlainMap.{RepliesAgree}
use Rattle.cl_serial.specs.Serial.{values_after}
use Rattle.cl_shown.specs.Done.{done_of}
use Rattle.cl_shown.specs.Laws.{transcript_of_firm}
use Rattle.cl_system.specs.Firm.{FirmEvent, firm_world_after, IsFirmRun, OfFirmRuns}
use Rattle.cl_system.specs.Roles.{IsOfSession}
use Rattle.cl_types.specs.declared.operations.TxnId.{TxnId}
use Rattle.cl_settled.specs.Settled.{HasBroken, AgreesWithHistory}

-- what is firm after a firm run
abbrev pub firm_after : Shape → List FirmEvent → List TxnId
firm_after shape events = (firm_world_after shape events).firm

-- the log of a virtual node after a firm run
abbrev pub log_after : Shape → List FirmEvent → ℕ → List LogEntry
log_after shape events v = ((firm_world_after shape events).world.replicas v).part.log

-- each replica has what the history says
abbrev pub ReplicasAgree : Type 0
ReplicasAgree = OfFirmRuns (λ shape events. (v : ℕ) → v < shape.nodes →
    AgreesWithHistory (transcript_of_firm shape events) (firm_after shape events) shape.nodes v ((firm_world_after shape events).world.replicas v).part)

-- the history of a longer run begins with that of the run
abbrev pub HistoriesGoOn : Type 0
HistoriesGoOn = (shape : Shape) (events more : List FirmEvent) → IsClusterSize shape.nodes shape.spares → IsFirmRun shape (events ++ more) →
    (rest : List TxnId) × (firm_after shape (events ++ more) ≡ firm_after shape events ++ rest)

-- the log of a virtual node after a longer run begins with its log after the run
abbrev pub LogsGoOn : Type 0
LogsGoOn = (shape : Shape) (events more : List FirmEvent) (v : ℕ) → IsClusterSize shape.nodes shape.spares → IsFirmRun shape (events ++ more) → v < shape.nodes →
    (rest : List LogEntry) × (log_after shape (events ++ more) v ≡ log_after shape events v ++ rest)

-- no log has a record that breaks the transaction
abbrev pub IsUnbroken : Shape → List FirmEvent → TxnId → Type 0
IsUnbroken shape events txn = (v : ℕ) → v < shape.nodes → HasBroken (log_after shape events v) txn → ⊥

-- the operations of a transaction outside the history that nothing breaks, done on the map after the history, give the replies that were written
abbrev pub UnbrokenReplay : Type 0
UnbrokenReplay = OfFirmRuns (λ shape events. (txn : TxnId) → IsOfSession txn → is_among txn (firm_after shape events) ≡ false → IsUnbroken shape events txn →
    RepliesAgree (values_after (transcript_of_firm shape events) (firm_after shape events)) (done_of (transcript_of_firm shape events) txn))

-- a transaction outside the history that something breaks never becomes a member
abbrev pub BrokenStayOut : Type 0
BrokenStayOut = (shape : Shape) (events more : List FirmEvent) (txn : TxnId) (v : ℕ) → IsClusterSize shape.nodes shape.spares → IsFirmRun shape (events ++ more) →
    v < shape.nodes → IsOfSession txn → is_among txn (firm_after shape events) ≡ false → HasBroken (log_after shape events v) txn →
    is_among txn (firm_after shape (events ++ more)) ≡ false
