use Rattle.std.proofs.Common.{arith}
use Rattle.cl_lists.specs.declared.slots.Side.TheVariants.{X, Y}
use Rattle.cl_lists.proofs.ArenaFacts.{list_count-is}
use Rattle.cl_lists.proofs.ArenaLaws.{is_placed}
use Rattle.cl_lists.proofs.arena.Arena.lists.Goals as goal

pub returns-in-X-clause-count : goal.returns-in-X-clause-count
returns-in-X-clause-count g c =
    let count = list_count-is c.args.self.now X in
    rw c.in-X.is (omega (arith, count, c.len.ensures, c.args.self.now.x_ends.ok.0))

pub returns-in-Y-clause-count : goal.returns-in-Y-clause-count
returns-in-Y-clause-count g c =
    let count = list_count-is c.args.self.now Y in
    rw c.in-Y.is (omega (arith, count, c.len-in-Y.ensures, c.args.self.now.y_ends.ok.0))

pub returns-in-X-clause-placed : goal.returns-in-X-clause-placed
returns-in-X-clause-placed g c = is_placed c.args.self.now c.args.side

pub returns-in-Y-clause-placed : goal.returns-in-Y-clause-placed
returns-in-Y-clause-placed g c = is_placed c.args.self.now c.args.side
