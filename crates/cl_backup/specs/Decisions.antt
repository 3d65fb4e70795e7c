-- The decisions that a replica keeps.
use Rattle.std.specs.Prelude.{if◌then◌else◌, List, [], ◌∷◌, ◌++◌}
use Rattle.cl_log.specs.declared.records.LogRec.{LogRec}
use Rattle.cl_log.specs.declared.records.LogRec.TheVariants.{Decide}
use Rattle.cl_log.specs.LogEntry.{LogEntry}
use Rattle.cl_log.specs.Open.{is_among}
use Rattle.cl_types.specs.declared.operations.TxnId.{TxnId}

-- these decisions with one more, where it is not there
abbrev pub with_decision : List TxnId → TxnId → List TxnId
with_decision decided txn = if is_among txn decided then decided else decided ++ txn ∷ []

-- the same, after a log record: a Decide is a decision
abbrev pub decisions_after : List TxnId → LogRec → List TxnId
decisions_after decided (Decide txn) = with_decision decided txn
decisions_after decided content = decided

-- the decisions of a log, in the order of its records
abbrev pub decisions_from : List TxnId → List LogEntry → List TxnId
decisions_from decided [] = decided
decisions_from decided (entry ∷ log) = decisions_from (decisions_after decided entry.content) log
