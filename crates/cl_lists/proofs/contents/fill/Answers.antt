use Rattle.std.proofs.Common.{None, arith, ap, ◌∙◌}
use Rattle.cl_lists.specs.Entries.{contents, next_free}
use Rattle.cl_lists.proofs.EntryWrites.{read_as, inside-frees}
use Rattle.cl_lists.proofs.contents.fill.Goals as goal

pub exchange-requires : goal.exchange-requires
exchange-requires g c = inside-frees c.args.slots.now c.args.slot c.requires

pub unreachable-requires : goal.unreachable-requires
unreachable-requires g c =
    let read = read_as next_free (contents c.args.slots.now) c.args.slot _ None c.exchange.ensures.had in
    grind (arith, read, c.requires, c.in-Item.is)

pub returns-clause-next : goal.returns-clause-next
returns-clause-next g c = read_as next_free (contents c.args.slots.now) c.args.slot _ None c.exchange.ensures.had ∙ ap next_free c.in-Free.is
