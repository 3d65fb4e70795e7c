use Rattle.std.proofs.Common.{Some, sym, ap, ◌∙◌}
use Rattle.cl_lists.proofs.EntryWrites.{contents-set_content, SameLinks-set_content, content_read}
use Rattle.cl_lists.proofs.contents.exchange.Goals as goal

pub returns-clause-had : goal.returns-clause-had
returns-clause-had g c =
    content_read c.args.slots.now c.slot.inside.index c.args.slot c.index-slots-slot.result c.slot.view_is c.requires
    ∙ ap Some (sym c.replace.ensures.value)

pub returns-clause-contents : goal.returns-clause-contents
returns-clause-contents g c =
    contents-set_content c.args.slots.now c.slot.inside.index c.args.slot c.index-slots-slot.result c.replace.new.dest _ c.slot.view_is c.replace.ensures.after

pub returns-clause-links : goal.returns-clause-links
returns-clause-links g c =
    SameLinks-set_content c.args.slots.now c.slot.inside.index c.args.slot c.index-slots-slot.result c.replace.new.dest _ c.slot.view_is c.replace.ensures.after
