-- A transaction outside the history is whole, or it is lost.
use Rattle.std.specs.Prelude.{◌≡◌, ℕ, true, false, ◌++◌}
use Rattle.cl_log.specs.Open.{is_among}
use Rattle.cl_members.specs.Members.{transcript_after, history_after, IsReplicaAfter}
use Rattle.cl_runs.specs.World.{Shape, Run}
use Rattle.cl_serial.specs.PlainMap.{RepliesAgree}
use Rattle.cl_serial.specs.Serial.{values_after}
use Rattle.cl_shown.specs.Done.{done_of}
use Rattle.cl_settled.specs.Settled.{HasBroken}
use Rattle.cl_types.specs.Names.{is_between}
use Rattle.cl_types.specs.declared.limits.TheConstants.{SESSIONS_MAX}
use Rattle.cl_types.specs.declared.operations.TxnId.{TxnId}
use Rattle.cl_vnode.specs.Replica.{ReplicaState}

-- after the run the transaction is no member, and no primary's log has a record that breaks it
pub record IsUnbrokenAfter (shape : Shape) (run : Run) (txn : TxnId) : Type 0 where
  pub session : is_between 1 SESSIONS_MAX txn.session ≡ true
  pub outside : is_among txn (history_after shape run) ≡ false
  pub unbroken : (v : ℕ) (primary : ReplicaState) → IsReplicaAfter shape run v primary → HasBroken primary.part.log txn → ⊥

-- the operations of such a transaction, done on the map after the history, give the replies that were written
abbrev pub UnbrokenReplays : Shape → Run → Type 0
UnbrokenReplays shape run = (txn : TxnId) → IsUnbrokenAfter shape run txn →
    RepliesAgree (values_after (transcript_after shape run) (history_after shape run)) (done_of (transcript_after shape run) txn)

-- after the run the transaction is no member, and a primary's log has a record that breaks it
pub record IsBrokenAfter (shape : Shape) (run : Run) (txn : TxnId) : Type 0 where
  pub session : is_between 1 SESSIONS_MAX txn.session ≡ true
  pub outside : is_among txn (history_after shape run) ≡ false
  pub v : ℕ
  pub primary : ReplicaState
  pub after : IsReplicaAfter shape run v primary
  pub broken : HasBroken primary.part.log txn

-- such a transaction is no member after a longer run
abbrev pub BrokenStaysOut : Shape → Run → Run → Type 0
BrokenStaysOut shape run more = (txn : TxnId) → IsBrokenAfter shape run txn → is_among txn (history_after shape (run ++ more)) ≡ false
