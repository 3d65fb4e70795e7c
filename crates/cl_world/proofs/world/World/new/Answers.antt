use Rattle.std.proofs.Common.{[], refl, ap, subst, sym, ◌+◌}
use Rattle.std.proofs.lemmas.List.Elements.{All-nil}
use Rattle.cl_ranges.specs.Spent.{IsUnspentRun}
use Rattle.cl_runs.specs.World.{world_after, IsRun}
use Rattle.cl_world.specs.Happenings.{run_of}
use Rattle.cl_world.specs.Mail.{AreKept, AreToLiving, IsToLiving, messages_in}
use Rattle.cl_world.proofs.world.World.new.Goals as goal

pub returns-clause-made : goal.returns-clause-made
unfolding world_after IsRun IsUnspentRun
returns-clause-made c = record {
  is_run = tt;
  unspent = tt;
  trace = ap run_of c.new-4.ensures;
  now = record {
    size = c.requires;
    nodes = refl;
    spares = refl;
    roster = record { nodes = c.new-5.ensures.nodes; spares = c.new-5.ensures.spares; entries = c.new-5.ensures.entries };
    actors = c.in_ok-new.ensures.actors;
    mail = subst (λ slots. AreKept (messages_in slots) []) (sym c.new-2.ensures) tt;
    living = subst (λ slots. AreToLiving (c.args.nodes + c.args.spares) (messages_in slots)) (sym c.new-2.ensures) (All-nil (IsToLiving (c.args.nodes + c.args.spares)));
    history = c.new-3.ensures;
    lines = refl;
    quiet = refl;
    unstopped = refl;
  };
}
