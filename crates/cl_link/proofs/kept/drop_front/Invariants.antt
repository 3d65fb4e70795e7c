use Rattle.std.proofs.Common.{◌≡◌, drop}
use Rattle.cl_link.proofs.kept.drop_front.Given as goal

abbrev pub invariant-loop : goal.invariant-loop
invariant-loop g l = l.kept.items ≡ drop l.counter l.initial.kept.items
