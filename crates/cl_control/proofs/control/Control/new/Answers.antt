use Rattle.std.proofs.Common.{length, arith, ap, subst, sym, []}
use Rattle.cl_control.specs.Sound.{IsSoundControl}
use Rattle.cl_control.proofs.Soundness.{sound-new}
use Rattle.cl_control.proofs.control.Control.new.Goals as goal

pub invariant_of-result : goal.invariant_of-result
invariant_of-result c = (
  subst (λ transactions. IsSoundControl (record { nodes = c.args.nodes; transactions = transactions; waiting = c.new-2.result.items })) (sym c.new.ensures)
      (subst (λ waiting. IsSoundControl (record { nodes = c.args.nodes; transactions = []; waiting = waiting })) (sym c.new-2.ensures.items) (sound-new c.args.nodes c.requires)),
  omega (arith, ap length c.new.ensures),
)
