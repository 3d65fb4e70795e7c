-- Where the core sends nothing, nothing is given.
use Rattle.std.proofs.Common.{sym, ◌∙◌}
use Rattle.cl_actor.proofs.Handling.{made_alone, endpoint_after_nothing}
use Rattle.cl_actor.proofs.acting.Acting.emit_alone.Goals as goal

pub returns-clause-outs : goal.returns-clause-outs
returns-clause-outs g c = made_alone _ _ _ _ c.in-Ok.ensures.packets c.new.ensures

pub returns-clause-endpoint : goal.returns-clause-endpoint
returns-clause-endpoint g c = c.in-Ok.ensures.after ∙ sym (endpoint_after_nothing _ _)
