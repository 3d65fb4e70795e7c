use Rattle.std.proofs.Common.{None, false, arith, ap, ◌∙◌}
use Rattle.cl_lists.specs.Entries.{contents, item_of, is_item}
use Rattle.cl_lists.proofs.EntryWrites.{read_as, inside-used}
use Rattle.cl_lists.proofs.contents.vacate.Goals as goal

pub exchange-requires : goal.exchange-requires
exchange-requires g c = inside-used c.args.slots.now c.args.slot c.requires

pub unreachable-requires : goal.unreachable-requires
unreachable-requires g c =
    let read = read_as is_item (contents c.args.slots.now) c.args.slot _ false c.exchange.ensures.had in
    grind (arith, read, c.requires, c.in-Free.is)

pub returns-clause-item : goal.returns-clause-item
returns-clause-item g c = read_as item_of (contents c.args.slots.now) c.args.slot _ None c.exchange.ensures.had ∙ ap item_of c.in-Item.is
