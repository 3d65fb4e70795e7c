use Rattle.std.proofs.Common.{subst}
use Rattle.cl_runs.specs.World.{IsLiving}
use Rattle.cl_world.proofs.world.World.admits.Goals as goal

pub returns-then-not-lives : goal.returns-then-not-lives
returns-then-not-lives c = λ shape moment at whole. (
  λ no. absurd cc,
  λ facts. (c.if-not-lives.ensures shape moment.actors at.actors).1 (subst (λ roster. IsLiving shape roster c.args.actor) at.unstopped facts.0),
)
