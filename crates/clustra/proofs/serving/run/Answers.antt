-- Each way in which reading ends.
use Rattle.std.proofs.Common.{◌≡◌, ◌∙◌, Err, Ok, ap, sym}
use Rattle.clustra.specs.declared.input.InputFault.TheVariants.{Read}
use Rattle.clustra.proofs.Served.{end_of_answer, end_of_fault, served_all, served_fault}
use Rattle.clustra.proofs.serving.run.Goals as goal

pub returns-in-Err-clause-served : goal.returns-in-Err-clause-served
returns-in-Err-clause-served g c =
    served_fault _ _ _ _ _ _ _ _ _ _ _ c.in-Err.fault _ c.in-Err.ensures.reads c.requires.made c.requires.whole
    (λ is. c.read_input.ensures.fault (c.in-Err.is ∙ ap Err is))
    (λ other. c.read_input.ensures.unfaulted (λ is. other (let same : Err c.in-Err.fault ≡ Err Read = sym c.in-Err.is ∙ is in cc))) c.read_input.ensures.counted
    c.status_of_fault.ensures.read c.status_of_fault.ensures.too_much c.status_of_fault.ensures.status

pub returns-in-Err-clause-status : goal.returns-in-Err-clause-status
returns-in-Err-clause-status g c = end_of_fault _ c.status_of_fault.ensures.status

pub returns-in-Ok-clause-served : goal.returns-in-Ok-clause-served
returns-in-Ok-clause-served g c =
    served_all _ _ _ _ _ _ _ _ _ _ _ _ c.in-Ok.bytes _ c.in-Ok.ensures.reads c.in-Ok.ensures.end
    (c.read_input.ensures.unfaulted (λ is. absurd (let no' : Ok c.in-Ok.bytes ≡ Err Read = sym c.in-Ok.is ∙ is in cc)))
    c.read_input.ensures.counted _ c.deref.ensures.value c.answer_input.ensures.answered c.answer_input.ensures.status

pub returns-in-Ok-clause-status : goal.returns-in-Ok-clause-status
returns-in-Ok-clause-status g c = end_of_answer _ c.answer_input.ensures.status
