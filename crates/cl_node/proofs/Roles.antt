-- In which role a replica takes a message: a log record as the standby, everything else as the primary.
use Rattle.std.proofs.Common.{◌≡◌, ℕ, true, false, Result, IfOk}
use Rattle.cl_node.specs.Node.{ReplicaFits, is_replica_spent, replica_step}
use Rattle.cl_node.specs.Slot.{is_record}
use Rattle.cl_post.specs.Steps.{IsSpentWhere}
use Rattle.cl_steps.specs.declared.steps.Steps.{Steps}
use Rattle.cl_steps.specs.Steps.{step_of}
use Rattle.cl_types.specs.declared.answers.Refused.{Refused}
use Rattle.cl_vnode.specs.declared.vnode.Vnode.{Vnode}
use Rattle.cl_vnode.specs.Inputs.{Fits, StandbyFits, is_spent}
use Rattle.cl_vnode.specs.Replica.{IsReplicaStateOf, ReplicaState}
use Rattle.cl_vnode.specs.Standby.{standby_stepped}
use Rattle.cl_vnode.specs.Step.{Stepped, stepped}
use Rattle.cl_wire.specs.Message.{Content, Log}

-- what a call left and gave is this, where it gave anything
abbrev pub HasTaken : Vnode → Result Steps Refused → (Steps → Stepped) → Type 0
HasTaken new result after = IfOk result (λ steps. IsReplicaStateOf new (after steps).state × (step_of steps ≡ (after steps).step))

-- a log record that fits a replica fits the standby
pub record_fits : (nodes : ℕ) (replica : ReplicaState) (content : Content) → is_record content ≡ true →
    ReplicaFits nodes replica content → StandbyFits nodes replica content
record_fits nodes replica (Log v number entry) is fits = fits
record_fits nodes replica content is fits = absurd cc

-- whatever else fits it fits the primary
pub other_fits : (nodes : ℕ) (replica : ReplicaState) (content : Content) → is_record content ≡ false →
    ReplicaFits nodes replica content → Fits nodes replica content
other_fits nodes replica (Log v number entry) is fits = absurd cc
other_fits nodes replica content is fits = fits

module _ (new : Vnode) (result : Result Steps Refused) (primary : ℕ → ℕ) (replica : ReplicaState) (from : ℕ) where
  -- of a log record the replica takes a step as the standby
  pub record_taken : (content : Content) → is_record content ≡ true →
      HasTaken new result (λ steps. standby_stepped replica from content) → HasTaken new result (λ steps. replica_step primary replica from content steps.short)
  record_taken (Log v number entry) is taken = taken
  record_taken content is taken = absurd cc

  -- of everything else as the primary
  pub other_taken : (content : Content) → is_record content ≡ false →
      HasTaken new result (λ steps. stepped primary replica from content steps.short) →
      HasTaken new result (λ steps. replica_step primary replica from content steps.short)
  other_taken (Log v number entry) is taken = absurd cc
  other_taken content is taken = taken

-- whose step is spent where that of the primary is
pub other_spent : (result : Result Steps Refused) (replica : ReplicaState) (content : Content) → is_record content ≡ false →
    IsSpentWhere (is_spent replica content) result → IsSpentWhere (is_replica_spent replica content) result
other_spent result replica (Log v number entry) is spent = absurd cc
other_spent result replica content is spent = spent
