use Rattle.std.proofs.Common.{◌≡◌, ◌++◌, map, length}
use Rattle.std.specs.Vec.Iter.{into_iter_items}
use Rattle.cl_steps.specs.Steps.{step_of}
use Rattle.cl_vnode.specs.Sending.{AreSends, message_of_act, primary_of}
use Rattle.cl_vnode.proofs.sending.send_all.Given as goal

-- with the messages that are left, the step gives what it gives in the end
abbrev pub invariant-loop-act : goal.invariant-loop-act
invariant-loop-act l = record {
  sends : AreSends l.roster.nodes (into_iter_items l.acts);
  whole : record (step_of l.steps) { sends = (step_of l.steps).sends ++ map (message_of_act (primary_of l.roster)) (into_iter_items l.acts) }
      ≡ record (step_of l.fn.steps) { sends = (step_of l.fn.steps).sends ++ map (message_of_act (primary_of l.roster)) l.fn.acts.items.items };
}

abbrev pub decreases-loop-act : goal.decreases-loop-act
decreases-loop-act l = length (into_iter_items l.acts)
