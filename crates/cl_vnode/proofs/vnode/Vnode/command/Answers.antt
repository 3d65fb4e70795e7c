-- The acts of a command are a Decide or messages.
use Rattle.std.proofs.Common.{List, OnOk, sym, ap, ◌∙◌, subst, refl}
use Rattle.cl_control.specs.declared.acts.Act.{Act}
use Rattle.cl_control.specs.Calls.{command_acts, after_command}
use Rattle.cl_control.specs.State.{ControlState}
use Rattle.cl_types.specs.Placement.{IsNodeCount}
use Rattle.cl_vnode.specs.Sending.{AreActs, HasStepped, primary_of}
use Rattle.cl_part.proofs.States.{OnOk-map}
use Rattle.cl_vnode.specs.Step.{Stepped, commanded, with_control, all_performed}
use Rattle.cl_vnode.proofs.Controller.{nodes-after_command, command_acts_are_acts}
use Rattle.cl_vnode.proofs.Performing.{controlled}
use Rattle.cl_vnode.proofs.vnode.Vnode.command.Goals as goal

pub perform-requires : goal.perform-requires
perform-requires c =
    let counted : IsNodeCount c.args.roster.now.nodes = subst IsNodeCount c.nodes-nodes.ensures.nodes c.nodes-nodes.ensures.counted in
    subst (AreActs c.args.roster.now.nodes c.command.new.self) (sym c.in_ok-acts.ensures.acts)
    (subst (λ (s : ControlState). AreActs c.args.roster.now.nodes s (command_acts c.args.self.now.control c.args.txn c.args.number c.args.what.now)) (sym c.in_ok-acts.ensures.state)
    (command_acts_are_acts c.args.roster.now.nodes c.args.self.now.control c.args.txn c.args.number c.args.what.now counted
    c.requires.nodes c.requires.may))

pub returns-clause-step : goal.returns-clause-step
unfolding commanded
returns-clause-step c before has =
    let after : Stepped = with_control before (after_command before.state.control c.args.txn c.args.number c.args.what.now) in
    subst (λ (acts : List Act). OnOk c.perform.result (HasStepped c.perform.new.self c.perform.new.steps (all_performed (primary_of c.args.roster.now) after acts)))
    (c.in_ok-acts.ensures.acts ∙ ap (λ (s : ControlState). command_acts s c.args.txn c.args.number c.args.what.now) has.state.control)
    (c.perform.ensures.step after
    (controlled c.args.self.now _ c.args.steps.now before
    (λ s. after_command s c.args.txn c.args.number c.args.what.now) has refl refl refl refl c.in_ok-acts.ensures.state))

pub returns-clause-nodes : goal.returns-clause-nodes
returns-clause-nodes c =
    OnOk-map c.perform.result _ _
    (λ same. same ∙ ap (λ (s : ControlState). s.nodes) c.in_ok-acts.ensures.state ∙ nodes-after_command c.args.self.now.control c.args.txn c.args.number c.args.what.now)
    c.perform.ensures.nodes
