use Rattle.std.proofs.Common.{◌≡◌, ◌≤◌, max, fold}
use Rattle.cl_log.specs.Log.{entries}
use Rattle.cl_vnode.specs.Sending.{HasStepped, primary_of}
use Rattle.cl_vnode.specs.Step.{Stepped, entry_told, entries_between}
use Rattle.cl_vnode.proofs.vnode.Vnode.tell_safe.Given as goal

-- what is safe up to the number was told
abbrev pub invariant-loop-number : goal.invariant-loop-number
invariant-loop-number l = record {
  told : (before : Stepped) → HasStepped l.fn.self l.fn.steps before →
      HasStepped l.self l.steps (fold (entry_told (primary_of l.roster)) before (entries_between l.fn.old l.number before.state.part.log));
  log : entries l.self.part.log ≡ entries l.fn.self.part.log;
  nodes : l.roster.nodes ≡ l.self.control.nodes;
  short : l.steps.short ≡ l.fn.steps.short;
  within : l.number ≤ max l.fn.old l.number-end;
}
