-- The Decide is in the log, the controller has its number, and the decision is kept.
use Rattle.std.proofs.Common.{◌≡◌, List, ◌++◌, ap, ◌∙◌}
use Rattle.cl_types.specs.declared.operations.TxnId.{TxnId}
use Rattle.cl_backup.specs.Decisions.{with_decision}
use Rattle.cl_control.specs.Calls.{after_decided_at}
use Rattle.cl_control.specs.State.{ControlState}
use Rattle.cl_repair.specs.declared.mode.Mode.{Mode}
use Rattle.cl_repair.specs.Modes.{ModesState}
use Rattle.cl_steps.specs.Steps.{Step}
use Rattle.cl_vnode.specs.Step.{decided, firm_at_once}
use Rattle.cl_vnode.proofs.Controller.{nodes-after_decided_at}
use Rattle.cl_vnode.proofs.vnode.Vnode.decide.Goals as goal

pub returns-clause-step : goal.returns-clause-step
unfolding decided
returns-clause-step c before has =
    let number : c.in_ok-number.number ≡ before.state.part.next = c.in_ok-number.ensures.number ∙ has.state.part.next in
    record {
      state = record {
        v = has.state.v;
        part = c.in_ok-number.ensures.state before.state.part has.state.part;
        control = c.decided_at.ensures ∙ ap (λ (s : ControlState). after_decided_at s c.args.txn c.in_ok-number.number) has.state.control
            ∙ ap (after_decided_at before.state.control c.args.txn) number;
        modes = has.state.modes;
        decisions = c.in_ok-take.ensures.ok ∙ ap (λ (kept : List TxnId). with_decision kept c.args.txn) has.state.decisions;
      };
      step = c.in_ok-tell_firm_at_once.ensures
          ∙ ap (λ (s : Step). record s { firm = s.firm ++ firm_at_once c.mode.result c.args.txn }) has.step
          ∙ ap (λ (mode : Mode). record before.step { firm = before.step.firm ++ firm_at_once mode c.args.txn })
          (c.mode.ensures ∙ ap (λ (modes : ModesState). modes.mode) has.state.modes);
    }

pub returns-clause-nodes : goal.returns-clause-nodes
returns-clause-nodes c = ap (λ (s : ControlState). s.nodes) c.decided_at.ensures ∙ nodes-after_decided_at c.args.self.now.control c.args.txn c.in_ok-number.number
