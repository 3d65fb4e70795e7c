use Rattle.std.proofs.Common.{refl, ap, sym, subst}
use Rattle.cl_log.specs.declared.slots.Slot.{Slot}
use Rattle.cl_log.specs.Rest.{is_undone}
use Rattle.cl_log.specs.Slots.{KnowPrevious, KnowUndone, listed}
use Rattle.std.proofs.Common.{List}
use Rattle.cl_log.proofs.slots.SlotList.new.Goals as goal

pub invariant_of-result-clause-knows_previous : goal.invariant_of-result-clause-knows_previous
invariant_of-result-clause-knows_previous c = subst (λ (slots : List Slot). KnowPrevious slots (listed c.args.first slots)) (sym c.new.ensures.items) refl

pub invariant_of-result-clause-knows_undone : goal.invariant_of-result-clause-knows_undone
invariant_of-result-clause-knows_undone c = subst (λ (slots : List Slot). KnowUndone slots (listed c.args.first slots)) (sym c.new.ensures.items) refl

pub invariant_of-result-clause-knows_greatest : goal.invariant_of-result-clause-knows_greatest
unfolding is_undone
invariant_of-result-clause-knows_greatest c number h = ap (λ (slots : List Slot). is_undone (listed c.args.first slots) number) c.new.ensures.items
