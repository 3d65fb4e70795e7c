use Rattle.std.proofs.Common.{◌↔◌, IsTrue, subst, sym}
use Rattle.cl_runs.specs.World.{IsEnabled, IsLiving}
use Rattle.cl_system.specs.System.{system}
use Rattle.cl_world.specs.Happenings.{happening_of}
use Rattle.cl_world.specs.Mail.{IsStillKept}
use Rattle.cl_world.specs.World.{moment_after}
use Rattle.cl_world.proofs.world.World.enabled.Goals as goal

pub returns-in-Tick : goal.returns-in-Tick
returns-in-Tick c = λ shape run made whole.
    let lives = c.lives.ensures shape (moment_after shape run).actors made.now.actors in
    subst (λ e. IsTrue c.lives.result ↔ (IsEnabled (system shape.nodes) shape (moment_after shape run)
    (happening_of e) × IsStillKept c.args.self.now.mail e)) (sym c.in-Tick.is) (
      λ yes. (record { widely = subst (λ roster. IsLiving shape roster c.in-Tick.actor) (sym made.now.unstopped) (lives.0 yes); timely = tt }, tt),
      λ may. lives.1 (subst (λ roster. IsLiving shape roster c.in-Tick.actor) made.now.unstopped may.0.widely),
    )
