-- A primary without a standby, between two steps.
use Rattle.std.specs.Prelude.{◌≡◌, ◌<◌, ◌≤◌, false, [], All}
use Rattle.cl_control.specs.Sound.{IsSoundControl, has_decide}
use Rattle.cl_repair.specs.declared.mode.Mode.TheVariants.{Lone}
use Rattle.cl_vnode.specs.Replica.{ReplicaState}

-- without a standby all of the log is safe, so between two steps nothing waits to be safe
pub record IsCalm (state : ReplicaState) : Type 0 where
  -- there is no standby
  pub lone : state.modes.mode ≡ Lone
  -- what holds of each controller
  pub sound : IsSoundControl state.control
  -- no Decide waits to be safe
  pub none_waits : state.control.waiting ≡ []
  -- no open transaction is decided
  pub undecided : All (λ entry. has_decide entry.phase ≡ false) state.control.transactions
  -- each record has a number below the next one, which is 1 at least
  pub below : All (λ entry. entry.number < state.part.next) state.part.log
  pub numbered : 1 ≤ state.part.next
