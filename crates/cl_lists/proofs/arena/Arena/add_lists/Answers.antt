use Rattle.std.proofs.Common.{refl, ap, arith}
use Rattle.std.proofs.lemmas.Grind.{merely}
use Rattle.std.proofs.lemmas.Result.{on_ok_weaker, on_err_weaker}
use Rattle.cl_lists.specs.declared.slots.Side.TheVariants.{X, Y}
use Rattle.cl_lists.specs.Arena.{item_at, free_slots, lists_on}
use Rattle.cl_lists.specs.Entries.{lists_on_side}
use Rattle.cl_lists.proofs.ArenaFacts.{are_linked, more_fit}
use Rattle.cl_lists.proofs.ArenaChanges.{either-answer}
use Rattle.cl_lists.proofs.SideFacts.{IsSide-more_lists, AreLinked-grown, length-grown}
use Rattle.cl_lists.proofs.arena.Arena.add_lists.Goals as goal

pub add_lists-requires : goal.add_lists-requires
add_lists-requires g c = omega (arith, more_fit c.args.self.now X c.args.side c.in-X.is c.args.count c.requires, c.args.self.now.x_ends.ok.0)

pub invariant_of-self-clause-x_linked : goal.invariant_of-self-clause-x_linked
invariant_of-self-clause-x_linked g c =
    merely (AreLinked-grown X c.args.self.now.slots.items c.args.self.now.x_ends.items c.add_lists.new.ends.items c.args.count (are_linked c.args.self.now X)
    (either-answer c.add_lists.result c.add_lists.ensures.ok c.add_lists.ensures.err))

pub invariant_of-self-clause-x_few : goal.invariant_of-self-clause-x_few
invariant_of-self-clause-x_few g c =
    let grown = length-grown c.args.self.now.x_ends.items c.add_lists.new.ends.items c.args.count (either-answer c.add_lists.result c.add_lists.ensures.ok c.add_lists.ensures.err) in
    omega (arith, more_fit c.args.self.now X c.args.side c.in-X.is c.args.count c.requires, grown)

pub returns-in-X : goal.returns-in-X
unfolding lists_on item_at free_slots
returns-in-X g c = record {
  ok = rw c.in-X.is (on_ok_weaker c.add_lists.result (λ more. (IsSide-more_lists X c.args.self.now.slots.items c.args.self.now.x_ends.items c.add_lists.new.ends.items c.args.count (are_linked c.args.self.now X) more).lists_are) c.add_lists.ensures.ok);
  err = rw c.in-X.is (on_err_weaker c.add_lists.result (λ same. ap (λ ends. lists_on_side X c.args.self.now.slots.items ends) same) c.add_lists.ensures.err);
  none = c.add_lists.ensures.none;
  other = rw c.in-X.is refl;
  items = λ slot. refl;
  room = refl;
}

pub add_lists-requires-in-Y : goal.add_lists-requires-in-Y
add_lists-requires-in-Y g c = omega (arith, more_fit c.args.self.now Y c.args.side c.in-Y.is c.args.count c.requires, c.args.self.now.y_ends.ok.0)

pub invariant_of-self-in-Y-clause-y_linked : goal.invariant_of-self-in-Y-clause-y_linked
invariant_of-self-in-Y-clause-y_linked g c =
    merely (AreLinked-grown Y c.args.self.now.slots.items c.args.self.now.y_ends.items c.add_lists-in-Y.new.ends.items c.args.count (are_linked c.args.self.now Y)
    (either-answer c.add_lists-in-Y.result c.add_lists-in-Y.ensures.ok c.add_lists-in-Y.ensures.err))

pub invariant_of-self-in-Y-clause-y_few : goal.invariant_of-self-in-Y-clause-y_few
invariant_of-self-in-Y-clause-y_few g c =
    let grown = length-grown c.args.self.now.y_ends.items c.add_lists-in-Y.new.ends.items c.args.count (either-answer c.add_lists-in-Y.result c.add_lists-in-Y.ensures.ok c.add_lists-in-Y.ensures.err) in
    omega (arith, more_fit c.args.self.now Y c.args.side c.in-Y.is c.args.count c.requires, grown)

pub returns-in-Y : goal.returns-in-Y
unfolding lists_on item_at free_slots
returns-in-Y g c = record {
  ok = rw c.in-Y.is (on_ok_weaker c.add_lists-in-Y.result (λ more. (IsSide-more_lists Y c.args.self.now.slots.items c.args.self.now.y_ends.items c.add_lists-in-Y.new.ends.items c.args.count (are_linked c.args.self.now Y) more).lists_are) c.add_lists-in-Y.ensures.ok);
  err = rw c.in-Y.is (on_err_weaker c.add_lists-in-Y.result (λ same. ap (λ ends. lists_on_side Y c.args.self.now.slots.items ends) same) c.add_lists-in-Y.ensures.err);
  none = c.add_lists-in-Y.ensures.none;
  other = rw c.in-Y.is refl;
  items = λ slot. refl;
  room = refl;
}
