use Rattle.std.proofs.Common.{ap, ◌∙◌}
use Rattle.cl_lists.specs.declared.slots.Side.TheVariants.{X}
use Rattle.cl_lists.specs.Lists.{removed}
use Rattle.cl_lists.proofs.SideFacts.{lists_on_side-differ, IsSide-written_x, IsSide-written_y}
use Rattle.cl_lists.proofs.both_sides.extract.Goals as goal

pub returns-clause-x_linked : goal.returns-clause-x_linked
returns-clause-x_linked g c = (IsSide-written_x _ _ _ _ c.remove.ensures.rest c.remove-2.ensures.rest c.vacate.ensures.links _ _ _ _ c.vacate.ensures.contents c.remove.ensures.linked).linked

pub returns-clause-x : goal.returns-clause-x
returns-clause-x g c = (IsSide-written_x _ _ _ _ c.remove.ensures.rest c.remove-2.ensures.rest c.vacate.ensures.links _ _ _ _ c.vacate.ensures.contents c.remove.ensures.linked).lists_are

pub returns-clause-y_linked : goal.returns-clause-y_linked
returns-clause-y_linked g c = (IsSide-written_y _ _ _ _ c.remove.ensures.rest c.remove-2.ensures.rest c.vacate.ensures.links _ _ _ _ c.vacate.ensures.contents c.remove-2.ensures.linked).linked

pub returns-clause-y : goal.returns-clause-y
returns-clause-y g c =
    (IsSide-written_y _ _ _ _ c.remove.ensures.rest c.remove-2.ensures.rest c.vacate.ensures.links _ _ _ _ c.vacate.ensures.contents c.remove-2.ensures.linked).lists_are
    ∙ ap (λ lists. removed lists c.args.slot) (lists_on_side-differ X c.args.slots.now c.remove.new.slots c.args.y_ends.now c.remove.ensures.rest)
