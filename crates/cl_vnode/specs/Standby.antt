-- What an input makes of a replica that is a standby, and what the step gives.
use Rattle.std.specs.Prelude.{ℕ, List, [], ◌∷◌}
use Rattle.cl_types.specs.declared.operations.TxnId.{TxnId}
use Rattle.cl_log.specs.declared.records.LogRec.{LogRec}
use Rattle.cl_log.specs.declared.records.LogRec.TheVariants.{Decide}
use Rattle.cl_backup.specs.Decisions.{decisions_after}
use Rattle.cl_part.specs.State.{after_record}
use Rattle.cl_steps.specs.Steps.{sent, nothing_done}
use Rattle.cl_wire.specs.Message.{Content, Log, LogAck}
use Rattle.cl_vnode.specs.Replica.{ReplicaState}
use Rattle.cl_vnode.specs.Step.{Stepped, started}

-- the transaction that is firm once a standby has the record
abbrev pub firm_of : LogRec → List TxnId
firm_of (Decide txn) = txn ∷ []
firm_of content = []

-- the replica has taken a record
abbrev pub with_record : ReplicaState → LogRec → ReplicaState
with_record state content = record state { part = after_record state.part content; decisions = decisions_after state.decisions content }

-- a step of a standby: a record of its primary's log is taken and acknowledged; what else comes leaves all as it is
abbrev pub standby_stepped : ReplicaState → ℕ → Content → Stepped
standby_stepped state from (Log v number content) =
    record { state = with_record state content; step = record nothing_done { sends = sent from (LogAck v number) ∷ []; firm = firm_of content } }
standby_stepped state from content = started state
