-- The core notes the moment, and the endpoint stays.
use Rattle.std.proofs.Common.{sym, subst}
use Rattle.std.proofs.lemmas.Result.{on_ok_weaker}
use Rattle.cl_front.specs.FrontCore.{IsFront}
use Rattle.cl_front.proofs.machine.Front.quiet.Goals as goal

pub returns-clause-ok : goal.returns-clause-ok
returns-clause-ok c before is =
    on_ok_weaker c.quiet.result (λ notes. (notes, is.1))
    (c.quiet.ensures.ok before.core (subst (λ core. IsFront core before.core) (sym c.core_mut.ensures.value) is.0))
