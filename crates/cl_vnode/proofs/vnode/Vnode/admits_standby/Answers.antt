-- The replica has a state, and in it the message may come.
use Rattle.std.proofs.Common.{ap, sym, ◌∙◌}
use Rattle.cl_control.specs.State.{ControlState}
use Rattle.cl_vnode.proofs.States.{every_replica_has_state}
use Rattle.cl_vnode.proofs.vnode.Vnode.admits_standby.Goals as goal

pub returns-then-nodes-clause-admitted : goal.returns-then-nodes-clause-admitted
returns-then-nodes-clause-admitted c admitted =
    let state = every_replica_has_state c.args.self.now in (
      state.0,
      state.1,
      record {
        same_nodes = sym c.nodes.ensures.nodes ∙ c.if-nodes.true ∙ c.nodes-2.ensures ∙ ap (λ (control : ControlState). control.nodes) state.1.control;
        comes = (c.may_come_to_standby.ensures state.0 state.1.part).0 admitted;
      },
    )

pub returns-then-nodes-clause-refused : goal.returns-then-nodes-clause-refused
returns-then-nodes-clause-refused c state is fits = (c.may_come_to_standby.ensures state is.part).1 fits.comes
