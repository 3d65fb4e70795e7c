use Rattle.std.proofs.Common.{None, get_or, refl, ap}
use Rattle.std.proofs.lemmas.Grind.{merely}
use Rattle.cl_lists.specs.declared.slots.Side.TheVariants.{X, Y}
use Rattle.cl_lists.specs.Arena.{lists_on, item_at, free_slots}
use Rattle.cl_lists.specs.Entries.{items, free_count}
use Rattle.cl_lists.specs.FreeList.{is_free_list}
use Rattle.cl_lists.proofs.SideFacts.{AreLinked-none, lists_on_side-none}
use Rattle.cl_lists.proofs.arena.Arena.new.Goals as goal

pub invariant_of-result-clause-x_linked : goal.invariant_of-result-clause-x_linked
invariant_of-result-clause-x_linked g c = merely (AreLinked-none X c.new.result.items c.new-2.result.items c.new.ensures.items c.new-2.ensures.items)

pub invariant_of-result-clause-y_linked : goal.invariant_of-result-clause-y_linked
invariant_of-result-clause-y_linked g c = merely (AreLinked-none Y c.new.result.items c.new-3.result.items c.new.ensures.items c.new-3.ensures.items)

pub invariant_of-result-clause-free_linked : goal.invariant_of-result-clause-free_linked
unfolding is_free_list
invariant_of-result-clause-free_linked g c = refl

pub returns-clause-x : goal.returns-clause-x
unfolding lists_on
returns-clause-x g c = lists_on_side-none X c.new.result.items c.new-2.result.items c.new-2.ensures.items

pub returns-clause-y : goal.returns-clause-y
unfolding lists_on
returns-clause-y g c = lists_on_side-none Y c.new.result.items c.new-3.result.items c.new-3.ensures.items

pub returns-clause-items : goal.returns-clause-items
unfolding item_at
returns-clause-items g c = λ slot. ap (λ slots. get_or (items slots) slot None) c.new.ensures.items

pub returns-clause-room : goal.returns-clause-room
unfolding free_slots
returns-clause-room g c = ap free_count c.new.ensures.items
