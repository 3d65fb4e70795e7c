-- The acts are one Decide, or messages.
use Rattle.std.proofs.Common.{◌&&◌, List, OnOk, sym, ap, ◌∙◌, subst}
use Rattle.cl_control.specs.declared.acts.Act.{Act}
use Rattle.cl_log.specs.Log.{next_number}
use Rattle.cl_types.specs.GrowingList.{items}
use Rattle.cl_vnode.specs.Inputs.{is_full}
use Rattle.cl_vnode.specs.Sending.{HasStepped, primary_of}
use Rattle.cl_vnode.specs.Step.{performed, all_performed}
use Rattle.cl_vnode.proofs.Performing.{has_sent, decide_alone, sends_without, no_decide}
use Rattle.cl_vnode.proofs.vnode.Vnode.perform.Goals as goal

pub returns-in-Some-clause-step : goal.returns-in-Some-clause-step
unfolding performed
returns-in-Some-clause-step c before has =
    subst (λ (acts : List Act). OnOk c.decide.result (HasStepped c.decide.new.self c.decide.new.steps (all_performed (primary_of c.args.roster.now) before acts)))
    (sym (decide_alone (items c.args.acts) c.in-Some.txn (sym c.decide_in.ensures ∙ c.in-Some.is)))
    (c.decide.ensures.step before has)

pub returns-in_ok-send_all-in-None-clause-step : goal.returns-in_ok-send_all-in-None-clause-step
returns-in_ok-send_all-in-None-clause-step c before has =
    has_sent c.args.self.now c.args.steps.now c.send_all.new.steps (primary_of c.args.roster.now) c.args.roster.now.nodes before (items c.args.acts)
    (sends_without c.args.roster.now.nodes c.args.self.now.control (items c.args.acts) c.requires (sym c.decide_in.ensures ∙ c.in-None.is)) has c.in_ok-send_all-in-None.ensures

pub returns-in_ok-send_all-in-None-clause-spent : goal.returns-in_ok-send_all-in-None-clause-spent
returns-in_ok-send_all-in-None-clause-spent c =
    ap (λ b. b && is_full (next_number c.args.self.now.part.log))
    (no_decide c.args.roster.now.nodes (items c.args.acts) (sends_without c.args.roster.now.nodes c.args.self.now.control (items c.args.acts) c.requires (sym c.decide_in.ensures ∙ c.in-None.is)))
