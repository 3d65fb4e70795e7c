use Rattle.std.proofs.Common.{refl, ap, ◌∙◌}
use Rattle.std.proofs.lemmas.Grind.{merely}
use Rattle.cl_lists.specs.declared.slots.Side.TheVariants.{X, Y}
use Rattle.cl_lists.specs.Arena.{free_slots}
use Rattle.cl_lists.specs.Entries.{free_count}
use Rattle.cl_lists.proofs.ArenaChanges.{IsUnchanged-same, IsSide-added, is_free_list-added, free_counted-added, items_kept-added, IsUnchanged-added, free_count-after_added, OnErr-always}
use Rattle.cl_lists.proofs.arena.Arena.add_slot.Goals as goal

pub returns-in_err-add_free-clause-same : goal.returns-in_err-add_free-clause-same
returns-in_err-add_free-clause-same g c = IsUnchanged-same c.args.self.now _ c.in_err-add_free.ensures.err refl refl

pub returns-in_err-add_free-clause-err : goal.returns-in_err-add_free-clause-err
unfolding free_slots
returns-in_err-add_free-clause-err g c = OnErr-always c.from_residual.result (ap free_count c.in_err-add_free.ensures.err)

pub invariant_of-self-2-clause-x_linked : goal.invariant_of-self-2-clause-x_linked
invariant_of-self-2-clause-x_linked g c = merely (IsSide-added c.args.self.now c.add_free.new.slots.items c.in_ok-add_free.ensures.links c.in_ok-add_free.ensures.contents X).linked

pub invariant_of-self-2-clause-y_linked : goal.invariant_of-self-2-clause-y_linked
invariant_of-self-2-clause-y_linked g c = merely (IsSide-added c.args.self.now c.add_free.new.slots.items c.in_ok-add_free.ensures.links c.in_ok-add_free.ensures.contents Y).linked

pub invariant_of-self-2-clause-free_linked : goal.invariant_of-self-2-clause-free_linked
invariant_of-self-2-clause-free_linked g c =
    is_free_list-added c.args.self.now c.add_free.new.slots.items c.in_ok-add_free.ensures.links c.in_ok-add_free.ensures.contents c.len-index.result (c.len-index.ensures ∙ c.args.self.now.slots.ok.0)

pub invariant_of-self-2-clause-free_counted : goal.invariant_of-self-2-clause-free_counted
invariant_of-self-2-clause-free_counted g c = free_counted-added c.args.self.now c.add_free.new.slots.items c.in_ok-add_free.ensures.links c.in_ok-add_free.ensures.contents

pub returns-clause-same : goal.returns-clause-same
returns-clause-same g c = IsUnchanged-added c.args.self.now _
    (elim [
      | X ↦ (IsSide-added c.args.self.now c.add_free.new.slots.items c.in_ok-add_free.ensures.links c.in_ok-add_free.ensures.contents X).lists_are
      | Y ↦ (IsSide-added c.args.self.now c.add_free.new.slots.items c.in_ok-add_free.ensures.links c.in_ok-add_free.ensures.contents Y).lists_are
    ])
    (items_kept-added c.args.self.now c.add_free.new.slots.items c.in_ok-add_free.ensures.links c.in_ok-add_free.ensures.contents)

pub returns-clause-ok : goal.returns-clause-ok
unfolding free_slots
returns-clause-ok g c = free_count-after_added c.args.self.now c.add_free.new.slots.items c.in_ok-add_free.ensures.links c.in_ok-add_free.ensures.contents
