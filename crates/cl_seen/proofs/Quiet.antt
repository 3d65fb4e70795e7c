-- A primary whose log is acknowledged has told all of it.
use Rattle.std.proofs.Common.{◌≡◌, ℕ, ◌+◌, ◌-◌, ◌≤◌, List, [], fold, ap, arith}
use Rattle.cl_log.specs.LogEntry.{LogEntry}
use Rattle.cl_paired.specs.Paired.{told_at_once, untold, IsPaired}
use Rattle.cl_pairs.specs.Pairs.{PairWorld}
use Rattle.cl_runs.specs.World.{Shape}
use Rattle.cl_system.specs.Replicas.{own_primary}
use Rattle.cl_vnode.proofs.Telling.{none_between}
use Rattle.cl_vnode.specs.Replica.{ReplicaState}
use Rattle.cl_vnode.specs.Step.{Stepped, started, entry_told}

-- where all of the log is acknowledged, nothing is left to tell
pub nothing_to_tell : (shape : Shape) (pairs : PairWorld) (v : ℕ) → IsPaired (pairs.primaries v) →
    (pairs.primaries v).modes.acked + 1 ≡ (pairs.primaries v).part.next → untold own_primary (pairs.primaries v) ≡ []
unfolding told_at_once
nothing_to_tell shape pairs v paired all =
    let state : ReplicaState = pairs.primaries v in
    let safe : state.part.next - 1 ≤ state.modes.acked = omega (arith, all) in
    ap (λ (entries : List LogEntry). (let done : Stepped = fold (entry_told own_primary) (started state) entries in done.step.sends))
    (none_between state.modes.acked (state.part.next - 1) state.part.log safe)
