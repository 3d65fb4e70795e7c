-- What is kept of the world.
use Rattle.clustra.proofs.EveryRun.{run_laws}
use Rattle.clustra.proofs.Guaranteed.{kept_of, ran_of}
use Rattle.clustra.proofs.serving.serve.Goals as goal

pub returns-clause-ran : goal.returns-clause-ran
returns-clause-ran g c =
    let served = c.run-status.ensures.served in
    ran_of _ _ _ _ _ _ _ _ _ _ _ c.run-status.new.world _ run_laws served
    (kept_of _ _ _ served.answered.has_made c.kept.ensures.left c.kept.ensures.made) c.kept.ensures.front c.kept.ensures.nodes
