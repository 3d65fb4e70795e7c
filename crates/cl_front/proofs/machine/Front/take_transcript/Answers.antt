-- The core gives the transcript, and the endpoint stays.
use Rattle.std.proofs.Common.{sym, subst}
use Rattle.cl_front.specs.FrontCore.{IsFront}
use Rattle.cl_front.proofs.machine.Front.take_transcript.Goals as goal

pub returns-clause-left : goal.returns-clause-left
returns-clause-left c before is =
    (c.take_transcript.ensures.left before.core (subst (λ core. IsFront core before.core) (sym c.core_mut.ensures.value) is.0), is.1)
