use Rattle.std.proofs.Common.{◌≡◌, ◌≤◌, ◌++◌, max}
use Rattle.cl_log.specs.Log.{entries}
use Rattle.cl_steps.specs.Steps.{step_of}
use Rattle.cl_vnode.specs.Noting.{decides_in}
use Rattle.cl_vnode.specs.Step.{entries_between}
use Rattle.cl_vnode.proofs.noting.tell_firm_after.Given as goal

-- the Decides up to the number are told
abbrev pub invariant-loop-number : goal.invariant-loop-number
invariant-loop-number l = record {
  firm : step_of l.steps ≡ record (step_of l.fn.steps) { firm = (step_of l.fn.steps).firm ++ decides_in (entries_between l.old l.number (entries l.log)) };
  within : l.number ≤ max l.old l.number-end;
}
