use Rattle.std.proofs.Common.{ap, ◌∙◌, arith}
use Rattle.cl_control.specs.Calls.{counts_number}
use Rattle.cl_control.proofs.Kept.{kept-number, room-number}
use Rattle.cl_control.proofs.control.Control.decided_at.Goals as goal

pub insert-requires-clause-room : goal.insert-requires-clause-room
insert-requires-clause-room c =
    let counts = ap (λ state. counts_number state c.args.txn) c.self.view_is ∙ c.requires in
    omega (arith, room-number _ c.self.invariant.0 c.args.txn counts, c.self.invariant.1, c.self.inside.waiting.ok)

pub invariant_of-self : goal.invariant_of-self
invariant_of-self c =
    kept-number _ c.self.invariant.0 c.args.txn c.args.number _ _ _ _ c.self.invariant.1
    (ap (λ state. counts_number state c.args.txn) c.self.view_is ∙ c.requires) c.set_logged.ensures c.insert.ensures.items c.insert.ensures.capacity
