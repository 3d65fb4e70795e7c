-- What holds of the decisions of every log.
use Rattle.std.specs.Prelude.{List, []}
use Rattle.std.specs.List.{IsDistinct}
use Rattle.cl_types.specs.Transactions.{same_txn}
use Rattle.cl_backup.specs.Decisions.{decisions_from}
use Rattle.cl_log.specs.LogEntry.{LogEntry}

-- among the decisions of a log no transaction stands twice
abbrev pub DecisionsAreDistinct : Type 0
DecisionsAreDistinct = (log : List LogEntry) → IsDistinct same_txn (decisions_from [] log)
