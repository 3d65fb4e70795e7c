use Rattle.std.proofs.Common.{subst, sym}
use Rattle.cl_world.specs.Mail.{AreKept, AreToLiving, messages_in}
use Rattle.cl_world.specs.World.{living_in, moment_after}
use Rattle.cl_world.proofs.Packets.{kept_forgotten, living_forgotten}
use Rattle.cl_world.proofs.world.World.forget.Goals as goal

pub returns-clause-made : goal.returns-clause-made
returns-clause-made c = λ shape run made. record {
  is_run = made.is_run;
  unspent = made.unspent;
  trace = made.trace;
  now = record {
    size = made.now.size;
    nodes = made.now.nodes;
    spares = made.now.spares;
    roster = made.now.roster;
    actors = made.now.actors;
    mail = subst (λ slots. AreKept (messages_in slots) (moment_after shape run).packets) (sym c.forget_in.ensures) (kept_forgotten _ _ c.args.id made.now.mail);
    living = subst (λ slots. AreToLiving (living_in shape) (messages_in slots)) (sym c.forget_in.ensures) (living_forgotten _ _ c.args.id made.now.living);
    history = made.now.history;
    lines = made.now.lines;
    quiet = made.now.quiet;
    unstopped = made.now.unstopped;
  };
}
