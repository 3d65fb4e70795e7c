-- One more message is sent.
use Rattle.std.proofs.Common.{◌≡◌, ℕ, List, ◌∷◌, ◌++◌, [], map, sym, ap, ◌∙◌, subst, append_assoc}
use Rattle.std.specs.Vec.Iter.{into_iter_items}
use Rattle.cl_control.specs.declared.acts.Act.{Act}
use Rattle.cl_steps.specs.declared.steps.Outgoing.{Outgoing}
use Rattle.cl_steps.specs.Steps.{Step, step_of}
use Rattle.cl_vnode.specs.Sending.{AreSends, message_of_act, primary_of}
use Rattle.cl_vnode.proofs.sending.send_all.Goals as goal

one_more : (primary : ℕ → ℕ) (old new : Step) (act : Act) (acts : List Act) → new ≡ record old { sends = old.sends ++ message_of_act primary act ∷ [] } →
    record new { sends = new.sends ++ map (message_of_act primary) acts } ≡ record old { sends = old.sends ++ map (message_of_act primary) (act ∷ acts) }
one_more primary old new act acts e =
    ap (λ (s : Step). record s { sends = s.sends ++ map (message_of_act primary) acts }) e
    ∙ ap (λ (ms : List Outgoing). record old { sends = ms }) (append_assoc old.sends (message_of_act primary act ∷ []) (map (message_of_act primary) acts))

pub send_act-requires : goal.send_act-requires
send_act-requires c =
    let both : AreSends c.args.roster.now.nodes (c.in-Some.act ∷ into_iter_items c.next.new.self) = subst (AreSends c.args.roster.now.nodes) c.in-Some.ensures.items c.loop-act.invariant.sends in
    both.0

pub loop-act-preserved : goal.loop-act-preserved
loop-act-preserved c =
    let primary : ℕ → ℕ = primary_of c.args.roster.now in
    let both : AreSends c.args.roster.now.nodes (c.in-Some.act ∷ into_iter_items c.next.new.self) = subst (AreSends c.args.roster.now.nodes) c.in-Some.ensures.items c.loop-act.invariant.sends in
    record {
      sends = both.1;
      whole = one_more primary (step_of c.loop-act.steps) (step_of c.send_act.new.steps) c.in-Some.act (into_iter_items c.next.new.self) c.in_ok-send_act.ensures
          ∙ ap (λ (acts : List Act). record (step_of c.loop-act.steps) { sends = (step_of c.loop-act.steps).sends ++ map (message_of_act primary) acts }) (sym c.in-Some.ensures.items)
          ∙ c.loop-act.invariant.whole;
    }
