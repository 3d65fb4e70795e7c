use Rattle.std.proofs.Common.{refl, ◌∙◌, arith}
use Rattle.std.proofs.lemmas.Grind.{merely}
use Rattle.cl_lists.specs.declared.slots.Side.TheVariants.{X, Y}
use Rattle.cl_lists.specs.declared.slots.Content.TheVariants.{Item}
use Rattle.cl_lists.specs.Arena.{free_slots, lists_on}
use Rattle.cl_lists.proofs.ArenaFacts.{are_linked, list_count-is, unused-item_at}
use Rattle.cl_lists.proofs.ArenaChanges.{first_free-none, is_free-first, inside-first, unused-first, free_slots-is, contents-filled, is_free_list-filled, free_counted-filled, free_count-after_filled, Updates-written}
use Rattle.cl_lists.proofs.ArenaLaws.{list_count-pushed}
use Rattle.cl_lists.proofs.SideFacts.{few-with_items, AreLinked-with_items, lists_on_side-with_items}
use Rattle.cl_lists.proofs.arena.Arena.push_back.Goals as goal

pub unreachable-requires : goal.unreachable-requires
unreachable-requires g c =
    omega (arith, first_free-none c.args.self.now c.in_default.is, free_slots-is c.args.self.now, c.requires.room)

pub insert-self-requires-clause-x_linked : goal.insert-self-requires-clause-x_linked
insert-self-requires-clause-x_linked g c = rw (c.deref_mut.ensures.value, c.deref_mut-2.ensures.value) (are_linked c.args.self.now X)

pub insert-self-requires-clause-y_linked : goal.insert-self-requires-clause-y_linked
insert-self-requires-clause-y_linked g c = rw (c.deref_mut.ensures.value, c.deref_mut-3.ensures.value) (are_linked c.args.self.now Y)

pub insert-self-requires-clause-x_exists : goal.insert-self-requires-clause-x_exists
insert-self-requires-clause-x_exists g c = rw c.deref_mut-2.ensures.value (omega (arith, list_count-is c.args.self.now X, c.requires.x_exists))

pub insert-self-requires-clause-y_exists : goal.insert-self-requires-clause-y_exists
insert-self-requires-clause-y_exists g c = rw c.deref_mut-3.ensures.value (omega (arith, list_count-is c.args.self.now Y, c.requires.y_exists))

pub insert-self-requires-clause-is_free : goal.insert-self-requires-clause-is_free
insert-self-requires-clause-is_free g c = rw c.deref_mut.ensures.value (is_free-first c.args.self.now c.in-Some.slot c.in-Some.is)

pub overflow_sub-self : goal.overflow_sub-self
overflow_sub-self g c = omega (arith, free_slots-is c.args.self.now, c.requires.room)

pub invariant_of-self : goal.invariant_of-self
invariant_of-self g c =
    let fits = c.insert-self.auto.slots ∙ c.deref_mut.ensures.len in
    let x_fits = c.insert-self.auto.x_ends ∙ c.deref_mut-2.ensures.len in
    let y_fits = c.insert-self.auto.y_ends ∙ c.deref_mut-3.ensures.len in
    record {
      x_linked = merely (AreLinked-with_items X c.args.self.now.slots c.args.self.now.x_ends c.insert-self.new.slots c.insert-self.new.x_ends fits x_fits c.insert-self.ensures.x_linked);
      y_linked = merely (AreLinked-with_items Y c.args.self.now.slots c.args.self.now.y_ends c.insert-self.new.slots c.insert-self.new.y_ends fits y_fits c.insert-self.ensures.y_linked);
      x_few = few-with_items c.args.self.now.x_ends c.insert-self.new.x_ends x_fits c.args.self.now.x_few;
      y_few = few-with_items c.args.self.now.y_ends c.insert-self.new.y_ends y_fits c.args.self.now.y_few;
      free_linked = is_free_list-filled c.args.self.now c.in-Some.slot c.in-Some.is c.deref_mut.result.now c.insert-self.new.slots c.args.item c.deref_mut.ensures.value fits c.insert-self.ensures.contents c.insert-self.result c.insert-self.ensures.next;
      free_counted = free_counted-filled c.args.self.now c.in-Some.slot c.in-Some.is c.deref_mut.result.now c.insert-self.new.slots c.args.item c.deref_mut.ensures.value fits c.insert-self.ensures.contents;
    }

pub returns-clause-room : goal.returns-clause-room
unfolding free_slots
returns-clause-room g c =
    free_count-after_filled c.args.self.now c.in-Some.slot c.in-Some.is c.deref_mut.result.now c.insert-self.new.slots c.args.item c.deref_mut.ensures.value (c.insert-self.auto.slots ∙ c.deref_mut.ensures.len) c.insert-self.ensures.contents

pub returns-clause-pushes : goal.returns-clause-pushes
unfolding lists_on
returns-clause-pushes g c = record {
  fresh = unused-item_at c.args.self.now c.in-Some.slot (unused-first c.args.self.now c.in-Some.slot c.in-Some.is);
  updates = Updates-written c.args.self.now _ c.in-Some.slot (Item c.args.item) (inside-first c.args.self.now c.in-Some.slot c.in-Some.is)
      (contents-filled c.args.self.now c.in-Some.slot c.in-Some.is c.deref_mut.result.now c.insert-self.new.slots c.args.item c.deref_mut.ensures.value (c.insert-self.auto.slots ∙ c.deref_mut.ensures.len) c.insert-self.ensures.contents);
  lists = elim [
    | X ↦ lists_on_side-with_items X c.args.self.now.slots c.args.self.now.x_ends c.insert-self.new.slots c.insert-self.new.x_ends (c.insert-self.auto.slots ∙ c.deref_mut.ensures.len) (c.insert-self.auto.x_ends ∙ c.deref_mut-2.ensures.len)
        ∙ c.insert-self.ensures.x
        ∙ rw (c.deref_mut.ensures.value, c.deref_mut-2.ensures.value) refl
    | Y ↦ lists_on_side-with_items Y c.args.self.now.slots c.args.self.now.y_ends c.insert-self.new.slots c.insert-self.new.y_ends (c.insert-self.auto.slots ∙ c.deref_mut.ensures.len) (c.insert-self.auto.y_ends ∙ c.deref_mut-3.ensures.len)
        ∙ c.insert-self.ensures.y
        ∙ rw (c.deref_mut.ensures.value, c.deref_mut-3.ensures.value) refl
  ];
}

pub returns-clause-as_many : goal.returns-clause-as_many
returns-clause-as_many g c = list_count-pushed c.args.self.now _ c.args.x c.args.y c.in-Some.slot c.args.item (returns-clause-pushes g c)
