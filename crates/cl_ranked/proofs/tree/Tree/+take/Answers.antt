use Rattle.std.proofs.Common.{arith}
use Rattle.cl_ranked.specs.Slots.{kept_from}
use Rattle.cl_ranked.specs.Trees.{slots_in, is_counted}
use Rattle.cl_ranked.proofs.SlotLemmas.{slot_rules}
use Rattle.cl_ranked.proofs.tree.Tree.+take.Goals as goal
use Rattle.cl_ranked.proofs.tree.Tree.+take.Goals.{then-index-middle+in_ok-taken-in-Fork, else-index-middle+in_ok-taken-in-Fork-2}

pub prune-requires : goal.prune-requires
unfolding slots_in is_counted kept_from
prune-requires g t c =
    elim c.if-index-middle.branch [
      | then-index-middle+in_ok-taken-in-Fork w ↦ grind (arith, slot_rules)
      | else-index-middle+in_ok-taken-in-Fork-2 w ↦ grind (arith, slot_rules)
    ]
