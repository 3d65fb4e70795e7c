use Rattle.std.proofs.Common.{◌-◌, length, sym, ap, ◌∙◌, refl}
use Rattle.std.specs.Prelude.{slice_get}
use Rattle.std.specs.Option.{option_map}
use Rattle.std.proofs.lemmas.Option.{slice_get_past, slice_get_read}
use Rattle.cl_log.specs.declared.slots.Slot.{Slot}
use Rattle.cl_log.proofs.Numbered.{content_at-below}
use Rattle.cl_log.proofs.SlotFacts.{content_of_slot}
use Rattle.cl_log.proofs.slots.SlotList.at.Goals as goal

pub returns-then-number-self : goal.returns-then-number-self
returns-then-number-self c = sym (content_at-below _ _ _ c.if-number-self.true)

pub returns-in-Some : goal.returns-in-Some
returns-in-Some c =
    let list = c.args.self.now in
    let there = c.in-Some.ensures.lookup in
    sym (content_of_slot list.first c.args.number list.slots.items c.if-number-self.false
    ∙ ap (λ slots. option_map (λ (s : Slot). s.content) (slice_get slots (c.args.number - list.first))) (sym c.deref.ensures.value)
    ∙ ap (option_map (λ (s : Slot). s.content)) (slice_get_read c.deref.result.now (length c.deref.result.now) (c.args.number - list.first) c.in-Some.slot.now refl there.3.0 there.1))

pub returns-in-None : goal.returns-in-None
returns-in-None c =
    let list = c.args.self.now in
    let there = c.in-None.ensures.lookup in
    sym (content_of_slot list.first c.args.number list.slots.items c.if-number-self.false
    ∙ ap (λ slots. option_map (λ (s : Slot). s.content) (slice_get slots (c.args.number - list.first))) (sym c.deref.ensures.value)
    ∙ ap (option_map (λ (s : Slot). s.content)) (slice_get_past c.deref.result.now (c.args.number - list.first) there.3))
