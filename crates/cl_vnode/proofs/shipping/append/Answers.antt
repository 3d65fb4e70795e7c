-- One more message is added.
use Rattle.std.proofs.Common.{List, ◌∷◌, ◌++◌, [], sym, ap, ◌∙◌, append_assoc}
use Rattle.std.specs.Vec.Iter.{into_iter_items}
use Rattle.cl_steps.specs.declared.steps.Outgoing.{Outgoing}
use Rattle.cl_types.specs.GrowingList.{items}
use Rattle.cl_vnode.proofs.shipping.append.Goals as goal

pub loop-message-preserved : goal.loop-message-preserved
loop-message-preserved c =
    ap (λ (ms : List Outgoing). ms ++ into_iter_items c.next.new.self) c.in_ok-push.ensures.ok
    ∙ append_assoc (items c.loop-message.sends) (c.in-Some.message ∷ []) (into_iter_items c.next.new.self)
    ∙ ap (λ (ms : List Outgoing). items c.loop-message.sends ++ ms) (sym c.in-Some.ensures.items)
    ∙ c.loop-message.invariant
