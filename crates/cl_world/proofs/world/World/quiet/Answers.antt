use Rattle.std.proofs.Common.{length, ap, sym, ◌∙◌, subst}
use Rattle.cl_runs.specs.World.{IsLiving}
use Rattle.cl_world.proofs.Stops.{nobody_has_stopped}
use Rattle.cl_world.specs.World.{moment_after}
use Rattle.cl_world.proofs.world.World.quiet.Goals as goal

pub returns : goal.returns
returns c = λ shape run made whole.
    let rest = c.rest.ensures shape (moment_after shape run).actors made.now.actors whole in
    let none = nobody_has_stopped shape c.args.self.now run made in (
      λ yes. record {
        at_rest = λ actor lives. (rest.0 yes actor (subst (λ roster. IsLiving shape roster actor) none.roster lives)).0;
        noted = λ actor lives. ap length (none.noted actor ∙ sym none.roster);
        acknowledged = λ actor lives. (rest.0 yes actor (subst (λ roster. IsLiving shape roster actor) none.roster lives)).1;
      },
      λ quiet. rest.1 (λ actor lives.
          let here = subst (λ roster. IsLiving shape roster actor) (sym none.roster) lives in (quiet.at_rest actor here, quiet.acknowledged actor here)),
    )
