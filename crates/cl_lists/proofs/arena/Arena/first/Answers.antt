use Rattle.std.proofs.Common.{sym, ◌∙◌}
use Rattle.cl_lists.proofs.ArenaLaws.{in_use-first}
use Rattle.cl_lists.proofs.ArenaChanges.{if_some}
use Rattle.cl_lists.proofs.arena.Arena.first.Goals as goal

pub returns-clause-in_use : goal.returns-clause-in_use
returns-clause-in_use g c = if_some _ (λ slot is. in_use-first c.args.self.now c.args.side c.args.list slot (sym c.ends.ensures.first ∙ is))
