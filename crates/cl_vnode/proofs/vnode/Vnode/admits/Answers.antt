-- The replica has a state, and in it the message may come.
use Rattle.std.proofs.Common.{ap, sym, ◌∙◌, subst}
use Rattle.cl_control.specs.State.{ControlState}
use Rattle.cl_repair.specs.declared.mode.Mode.{Mode}
use Rattle.cl_repair.specs.Modes.{ModesState}
use Rattle.cl_vnode.specs.Inputs.{IsStandbyBelow}
use Rattle.cl_vnode.proofs.States.{every_replica_has_state}
use Rattle.cl_vnode.proofs.vnode.Vnode.admits.Goals as goal

pub returns-then-nodes-clause-admitted : goal.returns-then-nodes-clause-admitted
returns-then-nodes-clause-admitted c admitted =
    let state = every_replica_has_state c.args.self.now in
    let both = (c.may_come.ensures state.0 (sym state.1.control) state.1.part).0 admitted in (
      state.0,
      state.1,
      record {
        same_nodes = sym c.nodes.ensures.nodes ∙ c.if-nodes.true ∙ c.nodes-2.ensures ∙ ap (λ (control : ControlState). control.nodes) state.1.control;
        comes = both.1;
        standby = subst (λ (mode : Mode). IsStandbyBelow mode) (c.mode.ensures ∙ ap (λ (modes : ModesState). modes.mode) state.1.modes) both.0;
      },
    )

pub returns-then-nodes-clause-refused : goal.returns-then-nodes-clause-refused
returns-then-nodes-clause-refused c state is fits =
    (c.may_come.ensures state (sym is.control) is.part).1
    (subst (λ (mode : Mode). IsStandbyBelow mode) (sym (c.mode.ensures ∙ ap (λ (modes : ModesState). modes.mode) is.modes)) fits.standby, fits.comes)
