use Rattle.std.proofs.Common.{◌<◌, sym, subst}
use Rattle.std.proofs.lemmas.List.{length-map}
use Rattle.cl_lists.specs.Entries.{links_on, link_of, used, lists_on_side}
use Rattle.cl_lists.proofs.LinkAppend.{IsInside-append, IsLinked-append}
use Rattle.cl_lists.proofs.links.append.Goals as goal

pub set_neighbour-requires : goal.set_neighbour-requires
set_neighbour-requires g c =
    IsInside-append (links_on c.args.side c.args.slots.now) c.args.ends.now (used c.args.slots.now) (lists_on_side c.args.side c.args.slots.now c.args.ends.now) c.args.list c.args.slot
    c.requires.linked c.requires.list_exists c.requires.is_free c.index-ends-list.result _ _ c.set_link.ensures.links

pub returns-clause-linked : goal.returns-clause-linked
returns-clause-linked g c =
    IsLinked-append (links_on c.args.side c.args.slots.now) c.args.ends.now (used c.args.slots.now) (lists_on_side c.args.side c.args.slots.now c.args.ends.now) c.args.list c.args.slot
    c.requires.linked c.requires.list_exists c.requires.is_free c.index-ends-list.result
    (subst (λ n. c.args.slot < n) (sym (length-map c.args.slots.now (link_of c.args.side))) c.requires.slot_exists)
    _ _ _ _ _ c.set_link.ensures.links c.set_neighbour.ensures.links c.set_neighbour-2.ensures.links c.set_neighbour.ensures.ends c.set_neighbour-2.ensures.ends
