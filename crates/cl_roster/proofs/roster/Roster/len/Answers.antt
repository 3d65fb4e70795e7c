use Rattle.std.proofs.Common.{arith}
use Rattle.cl_types.specs.AppendOnlyList.{entries}
use Rattle.cl_roster.proofs.Bound.{length-lawful}
use Rattle.cl_roster.proofs.roster.Roster.len.Goals as goal

pub overflow_cast-result : goal.overflow_cast-result
overflow_cast-result c =
    let kept = c.self.invariant in
    let roster = c.self.inside in
    let few = length-lawful roster.nodes roster.spares (entries roster.entries) kept.size kept.lawful in
    omega (arith, c.len.ensures)

pub returns-clause-few : goal.returns-clause-few
returns-clause-few c =
    let kept = c.self.invariant in
    let roster = c.self.inside in
    let few = length-lawful roster.nodes roster.spares (entries roster.entries) kept.size kept.lawful in
    omega (arith, c.len.ensures)
