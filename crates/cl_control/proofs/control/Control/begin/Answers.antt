use Rattle.std.proofs.Common.{[], ◌∷◌, ◌++◌, length, arith, ap, subst, sym, ◌∙◌}
use Rattle.std.proofs.lemmas.List.{length_push}
use Rattle.cl_control.specs.Sound.{IsSoundControl}
use Rattle.cl_control.specs.State.{is_open_here, new_entry}
use Rattle.cl_control.proofs.Soundness.{sound-with_new}
use Rattle.cl_control.proofs.control.Control.begin.Goals as goal

pub invariant_of-self-2 : goal.invariant_of-self-2
invariant_of-self-2 c =
    let fresh = ap (λ state. is_open_here state c.args.txn) c.self.view_is ∙ c.requires in (
      subst (λ transactions. IsSoundControl (record { nodes = c.self.inside.nodes; transactions = transactions; waiting = c.reserve.new.self.items })) (sym c.in_ok-open.ensures.ok)
          (subst (λ waiting. IsSoundControl (record { nodes = c.self.inside.nodes; transactions = c.self.inside.transactions ++ new_entry c.args.txn ∷ []; waiting = waiting })) (sym c.in_ok-reserve.ensures.items)
          (sound-with_new _ c.args.txn c.self.invariant.0 fresh)),
      omega (arith, ap length c.in_ok-open.ensures.ok, length_push c.self.inside.transactions (new_entry c.args.txn), c.in_ok-reserve.ensures.ok),
    )
