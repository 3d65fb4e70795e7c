use Rattle.std.proofs.Common.{ap, ◌∙◌}
use Rattle.cl_lists.specs.declared.slots.Side.TheVariants.{X, Y}
use Rattle.cl_lists.specs.Links.{ends_at}
use Rattle.cl_lists.proofs.ArenaFacts.{first-ends, last-ends}
use Rattle.cl_lists.proofs.arena.Arena.ends.Goals as goal

pub returns-in-X-clause-first : goal.returns-in-X-clause-first
returns-in-X-clause-first g c =
    ap (λ both. both.first) (c.ends.ensures ∙ ap (λ all. ends_at all c.args.list) c.deref.ensures.value)
    ∙ rw c.in-X.is (first-ends c.args.self.now X c.args.list)

pub returns-in-X-clause-last : goal.returns-in-X-clause-last
returns-in-X-clause-last g c =
    ap (λ both. both.last) (c.ends.ensures ∙ ap (λ all. ends_at all c.args.list) c.deref.ensures.value)
    ∙ rw c.in-X.is (last-ends c.args.self.now X c.args.list)

pub returns-in-Y-clause-first : goal.returns-in-Y-clause-first
returns-in-Y-clause-first g c =
    ap (λ both. both.first) (c.ends-in-Y.ensures ∙ ap (λ all. ends_at all c.args.list) c.deref-in-Y.ensures.value)
    ∙ rw c.in-Y.is (first-ends c.args.self.now Y c.args.list)

pub returns-in-Y-clause-last : goal.returns-in-Y-clause-last
returns-in-Y-clause-last g c =
    ap (λ both. both.last) (c.ends-in-Y.ensures ∙ ap (λ all. ends_at all c.args.list) c.deref-in-Y.ensures.value)
    ∙ rw c.in-Y.is (last-ends c.args.self.now Y c.args.list)
