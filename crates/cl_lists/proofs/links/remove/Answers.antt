use Rattle.cl_lists.specs.Entries.{links_on, used, lists_on_side}
use Rattle.cl_lists.proofs.LinkRemove.{IsInside-remove_prev, IsInside-remove_next, IsLinked-remove}
use Rattle.cl_lists.proofs.links.remove.Goals as goal

pub set_neighbour-requires : goal.set_neighbour-requires
set_neighbour-requires g c =
    IsInside-remove_prev (links_on c.args.side c.args.slots.now) c.args.ends.now (used c.args.slots.now) (lists_on_side c.args.side c.args.slots.now c.args.ends.now) c.args.slot
    c.requires.linked c.requires.in_use c.link-old.result c.link-old.ensures

pub set_neighbour-requires-2 : goal.set_neighbour-requires-2
set_neighbour-requires-2 g c =
    IsInside-remove_next (links_on c.args.side c.args.slots.now) c.args.ends.now (used c.args.slots.now) (lists_on_side c.args.side c.args.slots.now c.args.ends.now) c.args.slot
    c.requires.linked c.requires.in_use c.link-old.result c.link-old.ensures _ _ c.set_neighbour.ensures.links c.set_neighbour.ensures.ends

pub returns-clause-linked : goal.returns-clause-linked
returns-clause-linked g c =
    IsLinked-remove (links_on c.args.side c.args.slots.now) c.args.ends.now (used c.args.slots.now) (lists_on_side c.args.side c.args.slots.now c.args.ends.now) c.args.slot
    c.requires.linked c.requires.in_use c.link-old.result c.link-old.ensures _ _ _ _ c.set_neighbour.ensures.links c.set_neighbour-2.ensures.links c.set_neighbour.ensures.ends c.set_neighbour-2.ensures.ends
