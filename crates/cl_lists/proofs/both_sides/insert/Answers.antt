use Rattle.std.proofs.Common.{ap, ◌∙◌}
use Rattle.cl_lists.specs.declared.slots.Side.TheVariants.{X}
use Rattle.cl_lists.specs.Lists.{appended}
use Rattle.cl_lists.proofs.SideFacts.{unused-free, used-differ, lists_on_side-differ, IsSide-written_x, IsSide-written_y}
use Rattle.cl_lists.proofs.both_sides.insert.Goals as goal

pub append-requires-clause-is_free : goal.append-requires-clause-is_free
append-requires-clause-is_free g c = unused-free c.args.slots.now c.args.slot c.requires.is_free

pub append-requires-2-clause-is_free : goal.append-requires-2-clause-is_free
append-requires-2-clause-is_free g c =
    rw (used-differ X c.args.slots.now c.append.new.slots c.append.ensures.rest) (unused-free c.args.slots.now c.args.slot c.requires.is_free)

pub returns-clause-x_linked : goal.returns-clause-x_linked
returns-clause-x_linked g c = (IsSide-written_x _ _ _ _ c.append.ensures.rest c.append-2.ensures.rest c.fill.ensures.links _ _ _ _ c.fill.ensures.contents c.append.ensures.linked).linked

pub returns-clause-x : goal.returns-clause-x
returns-clause-x g c = (IsSide-written_x _ _ _ _ c.append.ensures.rest c.append-2.ensures.rest c.fill.ensures.links _ _ _ _ c.fill.ensures.contents c.append.ensures.linked).lists_are

pub returns-clause-y_linked : goal.returns-clause-y_linked
returns-clause-y_linked g c = (IsSide-written_y _ _ _ _ c.append.ensures.rest c.append-2.ensures.rest c.fill.ensures.links _ _ _ _ c.fill.ensures.contents c.append-2.ensures.linked).linked

pub returns-clause-y : goal.returns-clause-y
returns-clause-y g c =
    (IsSide-written_y _ _ _ _ c.append.ensures.rest c.append-2.ensures.rest c.fill.ensures.links _ _ _ _ c.fill.ensures.contents c.append-2.ensures.linked).lists_are
    ∙ ap (λ lists. appended lists c.args.y c.args.slot) (lists_on_side-differ X c.args.slots.now c.append.new.slots c.args.y_ends.now c.append.ensures.rest)
