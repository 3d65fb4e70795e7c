use Rattle.std.proofs.Common.{◌≡◌, take, drop, deque_capacity}
use Rattle.cl_control.specs.Calls.{without_told}
use Rattle.cl_control.proofs.waiting.remove_first.Given as goal

abbrev pub invariant-loop : goal.invariant-loop
invariant-loop l = record {
  waiting : l.waiting.items ≡ drop l.counter l.initial.waiting.items;
  transactions : l.transactions ≡ without_told (take l.counter l.initial.waiting.items) l.initial.transactions;
  capacity : deque_capacity l.waiting ≡ deque_capacity l.initial.waiting;
}
