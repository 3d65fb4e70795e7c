use Rattle.std.proofs.Common.{None, false, arith, sym, ap, ◌∙◌}
use Rattle.cl_lists.specs.Entries.{contents, item_of, is_item}
use Rattle.cl_lists.specs.Arena.{item_at}
use Rattle.cl_lists.proofs.ArenaFacts.{inside-in_use, used-in_use}
use Rattle.cl_lists.proofs.EntryWrites.{read_as, content_read}
use Rattle.cl_lists.proofs.arena.Arena.get.Goals as goal

pub index-requires : goal.index-requires
index-requires g c =
    let inside = inside-in_use c.args.self.now c.args.slot c.requires in
    omega (arith, inside, c.slot.view_is, c.args.self.now.slots.ok.0)

pub unreachable-requires : goal.unreachable-requires
unreachable-requires g c =
    let inside = inside-in_use c.args.self.now c.args.slot c.requires in
    let had = content_read c.args.self.now.slots.items c.slot.inside.index c.args.slot c.index.result.now c.slot.view_is inside in
    let read = read_as is_item (contents c.args.self.now.slots.items) c.args.slot _ false had in
    grind (arith, read, used-in_use c.args.self.now c.args.slot c.requires, ap (λ e. is_item e.content) c.index.ensures, ap is_item c.in-Free.is)

pub returns : goal.returns
unfolding item_at
returns g c =
    let inside = inside-in_use c.args.self.now c.args.slot c.requires in
    let had = content_read c.args.self.now.slots.items c.slot.inside.index c.args.slot c.index.result.now c.slot.view_is inside in
    read_as item_of (contents c.args.self.now.slots.items) c.args.slot _ None had
    ∙ ap (λ e. item_of e.content) (sym c.index.ensures)
    ∙ ap item_of c.in-Item.is
