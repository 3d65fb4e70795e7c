use Rattle.std.proofs.Common.{◌≡◌, ◌∙◌, length, ap, sym, Err, rules}
use Rattle.std.proofs.lemmas.Iterator.Adapters.{YieldsList-from_vec}
use Rattle.std.proofs.lemmas.Iterator.Consumers.{YieldsList-so_far, YieldsList-turn, YieldsList-end}
use Rattle.cl_types.specs.declared.answers.Refused.TheVariants.{Spent}
use Rattle.cl_types.specs.GrowingList.{items}
use Rattle.cl_endpoint.specs.declared.limits.TheConstants.{ACTORS}
use Rattle.cl_endpoint.proofs.Gives.{HasGiven-none, HasGiven-one, HasGiven-all, HasGiven-refused, known_receiver}
use Rattle.cl_endpoint.proofs.endpoint.Endpoint.give_all.Goals as goal

pub loop-send-init : goal.loop-send-init
loop-send-init c = HasGiven-none _

pub loop-send-preserved : goal.loop-send-preserved
loop-send-preserved c =
    let all = items c.args.sends in
    let road = YieldsList-from_vec all (c.into_iter-send-iterator.ensures.into_iter_gives.0 ∙ c.into_items-send-items.ensures)
    (c.into_iter-send-iterator.ensures.into_iter_gives.1 ∙ c.into_items-send-items.result.ok.0 ∙ ap length c.into_items-send-items.ensures) in
    let turn = YieldsList-turn road c.loop-send.yielded _ c.loop-send.yielded_by _ c.next.new.self c.in-Some.send c.in-Some.is c.next.ensures.steps in
    let links : length c.args.self.now.links ≡ ACTORS = sym (ap (λ state. length state.links) c.self.view_is) ∙ c.self.invariant.1 in
    HasGiven-one c.args.self.now c.loop-send.self c.give.new.self c.loop-send.yielded c.in-Some.send c.loop-send.invariant c.in_ok-give.ensures.ok
    (known_receiver all _ ACTORS _ c.in-Some.send turn.0 turn.1 c.requires links) c.in_ok-give.ensures.within

pub returns-in_err-give-clause-spent : goal.returns-in_err-give-clause-spent
returns-in_err-give-clause-spent c = λ spent.
    let refused : c.give.result ≡ Err Spent = search rules in
    let all = items c.args.sends in
    let road = YieldsList-from_vec all (c.into_iter-send-iterator.ensures.into_iter_gives.0 ∙ c.into_items-send-items.ensures)
    (c.into_iter-send-iterator.ensures.into_iter_gives.1 ∙ c.into_items-send-items.result.ok.0 ∙ ap length c.into_items-send-items.ensures) in
    let turn = YieldsList-turn road c.loop-send.yielded _ c.loop-send.yielded_by _ c.next.new.self c.in-Some.send c.in-Some.is c.next.ensures.steps in
    let links : length c.args.self.now.links ≡ ACTORS = sym (ap (λ state. length state.links) c.self.view_is) ∙ c.self.invariant.1 in
    HasGiven-refused c.args.self.now c.loop-send.self all c.loop-send.yielded c.in-Some.send c.loop-send.invariant
    (YieldsList-so_far road c.loop-send.yielded _ c.loop-send.yielded_by) turn.0 turn.1
    (known_receiver all _ ACTORS _ c.in-Some.send turn.0 turn.1 c.requires links) (c.give.ensures.spent.0 refused)

pub returns-clause-ok : goal.returns-clause-ok
returns-clause-ok c =
    let road = YieldsList-from_vec (items c.args.sends) (c.into_iter-send-iterator.ensures.into_iter_gives.0 ∙ c.into_items-send-items.ensures)
    (c.into_iter-send-iterator.ensures.into_iter_gives.1 ∙ c.into_items-send-items.result.ok.0 ∙ ap length c.into_items-send-items.ensures) in
    (HasGiven-all c.args.self.now c.loop-send.self (items c.args.sends) c.loop-send.yielded c.loop-send.invariant
    (YieldsList-end road c.loop-send.yielded _ c.loop-send.yielded_by _ c.next.new.self c.in-None.is c.next.ensures.steps).0).0

pub returns-clause-fits : goal.returns-clause-fits
returns-clause-fits c =
    let road = YieldsList-from_vec (items c.args.sends) (c.into_iter-send-iterator.ensures.into_iter_gives.0 ∙ c.into_items-send-items.ensures)
    (c.into_iter-send-iterator.ensures.into_iter_gives.1 ∙ c.into_items-send-items.result.ok.0 ∙ ap length c.into_items-send-items.ensures) in
    (HasGiven-all c.args.self.now c.loop-send.self (items c.args.sends) c.loop-send.yielded c.loop-send.invariant
    (YieldsList-end road c.loop-send.yielded _ c.loop-send.yielded_by _ c.next.new.self c.in-None.is c.next.ensures.steps).0).1
