-- Every run is a run of the firm system: one of pairs, as it is seen.
use Rattle.std.proofs.Common.{sym, ap, ◌∙◌}
use Rattle.cl_cluster.specs.Alike.{pair_events_of, pairs_after}
use Rattle.cl_front.specs.Front.{FrontState, is_answered}
use Rattle.cl_members.proofs.Cores.{pair_run, transcript_is, rest_is, history_is, primary_is}
use Rattle.cl_members.proofs.Feeds.{fed_is}
use Rattle.cl_members.proofs.Longer.{cores}
use Rattle.cl_members.specs.Laws.{RunsAreFirmRuns}
use Rattle.cl_paired.proofs.Seeing.{at_once_seen}
use Rattle.cl_roster.specs.Roster.{IsClusterSize}
use Rattle.cl_runs.specs.World.{Shape, Run, IsWideRun}
use Rattle.cl_seen.proofs.EveryRun.{pair_runs_are_seen}
use Rattle.cl_seen.specs.Laws.{IsSeen}
use Rattle.cl_system.specs.Replicas.{own_primary}
use Rattle.cl_vnode.specs.Replica.{ReplicaState}

-- each run is seen
pub seen_run : (shape : Shape) (run : Run) → IsClusterSize shape.nodes shape.spares → IsWideRun (cores shape) shape run →
    IsSeen shape (pair_events_of shape run)
seen_run shape run size wide = pair_runs_are_seen shape (pair_events_of shape run) size (pair_run shape run size wide).is

-- the law
pub runs_are_firm_runs : RunsAreFirmRuns
runs_are_firm_runs shape run size wide =
    let seen : IsSeen shape (pair_events_of shape run) = seen_run shape run size wide in
    record {
      firm = seen.firm;
      transcript = transcript_is shape run size wide ∙ ap (λ (state : FrontState). state.transcript) seen.front;
      history = history_is shape run size wide ∙ seen.history;
      parts = λ v below. record {
        replica = (pairs_after shape run).primaries v;
        after = primary_is shape run size wide v below;
        same = ap (λ (state : ReplicaState). state.part)
            (sym (at_once_seen own_primary ((pairs_after shape run).primaries v) (seen.paired v below)) ∙ seen.replicas v below);
      };
      fed = fed_is shape run;
      rests = λ rest. ap is_answered (sym seen.front) ∙ sym (rest_is shape run size wide) ∙ rest;
    }
