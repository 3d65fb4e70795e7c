use Rattle.std.proofs.Common.{◌-◌, arith, ap, ◌∙◌, inl, inr, true, set}
use Rattle.std.proofs.Math.Seq.{map-set_same}
use Rattle.std.proofs.lemmas.List.{map-set}
use Rattle.cl_log.specs.declared.slots.Slot.{Slot}
use Rattle.cl_log.proofs.SlotFacts.{tests_elsewhere, tests_marked, length-contents}
use Rattle.cl_log.proofs.slots.mark_undone.Goals as goal

pub returns-then-number-first-clause-undone : goal.returns-then-number-first-clause-undone
returns-then-number-first-clause-undone c test flags = flags ∙ tests_elsewhere test _ _ _ (inl c.if-number-first.true)

pub returns-then-index-len-clause-contents : goal.returns-then-index-len-clause-contents
returns-then-index-len-clause-contents c = map-set_same (λ (s : Slot). s.content) _ _ _ _ (ap (λ (s : Slot). s.content) c.index_mut.ensures.value)

pub returns-then-index-len-clause-previous : goal.returns-then-index-len-clause-previous
returns-then-index-len-clause-previous c = map-set_same (λ (s : Slot). s.previous) _ _ _ _ (ap (λ (s : Slot). s.previous) c.index_mut.ensures.value)

pub returns-then-index-len-clause-undone : goal.returns-then-index-len-clause-undone
returns-then-index-len-clause-undone c test flags =
    let count = length-contents c.args.slots.now.items in
    map-set (λ (s : Slot). s.is_undone) _ _ _
    ∙ ap (λ bs. set bs (c.args.number - c.args.first) true) flags
    ∙ tests_marked test _ _ _ _ (omega arith) (omega (arith, count))

pub returns-else-index-len-clause-undone : goal.returns-else-index-len-clause-undone
returns-else-index-len-clause-undone c test flags =
    let count = length-contents c.args.slots.now.items in
    flags ∙ tests_elsewhere test _ _ _ (inr (omega (arith, count)))
