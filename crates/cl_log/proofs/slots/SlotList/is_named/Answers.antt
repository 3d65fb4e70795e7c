use Rattle.std.proofs.Common.{◌∙◌, sym, ap}
use Rattle.std.specs.List.{list_any}
use Rattle.cl_log.specs.declared.slots.Slot.{Slot}
use Rattle.cl_log.specs.Kind.{undoes}
use Rattle.cl_log.proofs.SlotFacts.{is_undone-slots}
use Rattle.cl_log.proofs.slots.SlotList.is_named.Goals as goal

pub returns-then-number-self : goal.returns-then-number-self
returns-then-number-self c =
    let list = c.args.self.now in
    c.is_named_by.ensures
    ∙ ap (list_any (λ (s : Slot). undoes c.args.number s.content)) c.deref.ensures.value
    ∙ sym (is_undone-slots list.first c.args.number list.slots.items)
