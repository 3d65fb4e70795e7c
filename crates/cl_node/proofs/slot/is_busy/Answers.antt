-- A replica has a state, which has its mode.
use Rattle.std.proofs.Common.{sym, ap, ◌∙◌}
use Rattle.cl_node.specs.Slot.{is_under_way}
use Rattle.cl_node.proofs.slot.is_busy.Goals as goal
use Rattle.cl_repair.specs.Modes.{ModesState}
use Rattle.cl_vnode.specs.Replica.{is_lasting}
use Rattle.cl_vnode.proofs.States.{every_replica_has_state}

pub returns-in-Some : goal.returns-in-Some
returns-in-Some c =
    let state = every_replica_has_state c.in-Some.replica in
    c.busy.ensures state.0 state.1 ∙ ap (λ (modes : ModesState). is_lasting modes.mode) (sym state.1.modes) ∙ ap is_under_way (sym c.in-Some.is)
