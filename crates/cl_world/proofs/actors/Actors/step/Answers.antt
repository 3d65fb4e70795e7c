use Rattle.std.proofs.Common.{subst, sym, None}
use Rattle.std.proofs.lemmas.List.{get_or_read}
use Rattle.cl_world.specs.Actors.{IsNodeIn}
use Rattle.cl_world.specs.Inputs.{input_of}
use Rattle.cl_world.proofs.Moves.{moved_node, member_bound, member_in}
use Rattle.cl_world.proofs.actors.Actors.step.Goals as goal

pub returns-clause-step : goal.returns-clause-step
returns-clause-step c = λ shape states may.
    let ne = c.if-actor-eq-FRONT.false in
    let actors = c.args.self.now in
    let input = input_of c.args.given.now in
    let same = get_or_read actors.members.items _ _ (member_bound shape actors states c.args.actor input may ne) c.index_mut.ensures.value None in
    moved_node shape actors _ states c.args.actor input c.step_node.result ne may
    (c.step_node.ensures.step c.args.actor (states c.args.actor) (subst (λ s. IsNodeIn s (states c.args.actor)) (sym same) (member_in shape actors states c.args.actor input may ne)))

pub returns-clause-spent : goal.returns-clause-spent
returns-clause-spent c = λ shape states may.
    let ne = c.if-actor-eq-FRONT.false in
    let actors = c.args.self.now in
    let input = input_of c.args.given.now in
    let same = get_or_read actors.members.items _ _ (member_bound shape actors states c.args.actor input may ne) c.index_mut.ensures.value None in
    c.step_node.ensures.spent c.args.actor (states c.args.actor) (subst (λ s. IsNodeIn s (states c.args.actor)) (sym same) (member_in shape actors states c.args.actor input may ne))
