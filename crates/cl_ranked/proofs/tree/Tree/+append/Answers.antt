use Rattle.std.proofs.Common.{arith}
use Rattle.cl_ranked.specs.Slots.{kept_from}
use Rattle.cl_ranked.specs.Trees.{slots_in, is_counted}
use Rattle.cl_ranked.proofs.SlotLemmas.{slot_rules}
use Rattle.cl_ranked.proofs.tree.Tree.+append.Goals as goal

pub returns-in_ok-append-in-Fork-clause-counted : goal.returns-in_ok-append-in-Fork-clause-counted
unfolding slots_in is_counted kept_from
returns-in_ok-append-in-Fork-clause-counted g t c = grind (arith, slot_rules)
