use Rattle.std.proofs.Common.{None, get_or, refl, sym, ap, ◌∙◌}
use Rattle.std.proofs.lemmas.Grind.{merely}
use Rattle.cl_lists.specs.declared.slots.Side.TheVariants.{X, Y}
use Rattle.cl_lists.specs.declared.slots.Content.TheVariants.{Free}
use Rattle.cl_lists.specs.Arena.{item_at, free_slots, lists_on}
use Rattle.cl_lists.specs.Entries.{items}
use Rattle.cl_lists.proofs.ArenaFacts.{are_linked, used-in_use, inside-in_use}
use Rattle.cl_lists.proofs.ArenaChanges.{contents-freed, is_free_list-freed, free_counted-freed, free_count-after_freed, Updates-written}
use Rattle.cl_lists.proofs.ArenaLaws.{list_count-unlinked}
use Rattle.cl_lists.proofs.SideFacts.{few-with_items, AreLinked-with_items, lists_on_side-with_items}
use Rattle.cl_lists.proofs.arena.Arena.unlink.Goals as goal

pub extract-item-requires-clause-x_linked : goal.extract-item-requires-clause-x_linked
extract-item-requires-clause-x_linked g c = rw (c.deref_mut.ensures.value, c.deref_mut-2.ensures.value) (are_linked c.args.self.now X)

pub extract-item-requires-clause-y_linked : goal.extract-item-requires-clause-y_linked
extract-item-requires-clause-y_linked g c = rw (c.deref_mut.ensures.value, c.deref_mut-3.ensures.value) (are_linked c.args.self.now Y)

pub extract-item-requires-clause-in_use : goal.extract-item-requires-clause-in_use
extract-item-requires-clause-in_use g c = rw c.deref_mut.ensures.value (used-in_use c.args.self.now c.args.slot c.requires)

pub invariant_of-self : goal.invariant_of-self
invariant_of-self g c =
    let fits = c.extract-item.auto.slots ∙ c.deref_mut.ensures.len in
    let x_fits = c.extract-item.auto.x_ends ∙ c.deref_mut-2.ensures.len in
    let y_fits = c.extract-item.auto.y_ends ∙ c.deref_mut-3.ensures.len in
    record {
      x_linked = merely (AreLinked-with_items X c.args.self.now.slots c.args.self.now.x_ends c.extract-item.new.slots c.extract-item.new.x_ends fits x_fits c.extract-item.ensures.x_linked);
      y_linked = merely (AreLinked-with_items Y c.args.self.now.slots c.args.self.now.y_ends c.extract-item.new.slots c.extract-item.new.y_ends fits y_fits c.extract-item.ensures.y_linked);
      x_few = few-with_items c.args.self.now.x_ends c.extract-item.new.x_ends x_fits c.args.self.now.x_few;
      y_few = few-with_items c.args.self.now.y_ends c.extract-item.new.y_ends y_fits c.args.self.now.y_few;
      free_linked = is_free_list-freed c.args.self.now c.args.slot c.requires c.deref_mut.result.now c.extract-item.new.slots c.deref_mut.ensures.value fits c.extract-item.ensures.contents;
      free_counted = free_counted-freed c.args.self.now c.args.slot c.requires c.deref_mut.result.now c.extract-item.new.slots c.deref_mut.ensures.value fits c.extract-item.ensures.contents;
    }

pub returns-clause-room : goal.returns-clause-room
unfolding free_slots
returns-clause-room g c =
    free_count-after_freed c.args.self.now c.args.slot c.requires c.deref_mut.result.now c.extract-item.new.slots c.deref_mut.ensures.value (c.extract-item.auto.slots ∙ c.deref_mut.ensures.len) c.extract-item.ensures.contents

pub returns-clause-unlinks : goal.returns-clause-unlinks
unfolding item_at lists_on
returns-clause-unlinks g c = record {
  had = ap (λ all. get_or (items all) c.args.slot None) (sym c.deref_mut.ensures.value) ∙ c.extract-item.ensures.item;
  updates = Updates-written c.args.self.now _ c.args.slot (Free c.args.self.now.first_free) (inside-in_use c.args.self.now c.args.slot c.requires)
      (contents-freed c.args.self.now c.args.slot c.requires c.deref_mut.result.now c.extract-item.new.slots c.deref_mut.ensures.value (c.extract-item.auto.slots ∙ c.deref_mut.ensures.len) c.extract-item.ensures.contents);
  lists = elim [
    | X ↦ lists_on_side-with_items X c.args.self.now.slots c.args.self.now.x_ends c.extract-item.new.slots c.extract-item.new.x_ends (c.extract-item.auto.slots ∙ c.deref_mut.ensures.len) (c.extract-item.auto.x_ends ∙ c.deref_mut-2.ensures.len)
        ∙ c.extract-item.ensures.x
        ∙ rw (c.deref_mut.ensures.value, c.deref_mut-2.ensures.value) refl
    | Y ↦ lists_on_side-with_items Y c.args.self.now.slots c.args.self.now.y_ends c.extract-item.new.slots c.extract-item.new.y_ends (c.extract-item.auto.slots ∙ c.deref_mut.ensures.len) (c.extract-item.auto.y_ends ∙ c.deref_mut-3.ensures.len)
        ∙ c.extract-item.ensures.y
        ∙ rw (c.deref_mut.ensures.value, c.deref_mut-3.ensures.value) refl
  ];
}

pub returns-clause-as_many : goal.returns-clause-as_many
returns-clause-as_many g c = list_count-unlinked c.args.self.now _ c.args.slot c.extract-item.result (returns-clause-unlinks g c)
