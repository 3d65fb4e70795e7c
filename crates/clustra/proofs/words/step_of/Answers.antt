-- The only word is the one that was compared.
use Rattle.std.proofs.Common.{◌∙◌, sym}
use Rattle.clustra.proofs.Asked.{same_text, step_of_one}
use Rattle.clustra.proofs.words.step_of.Goals as goal

pub returns-in-len1 : goal.returns-in-len1
returns-in-len1 c = λ step.
    step_of_one _ _ c.word-item.result step c.in-len1.len_at_least c.in-len1.len_below c.word-item.is
    (sym c.as_str.ensures.value ∙ same_text c.as_str.result.now _ (sym c.eq.ensures ∙ c.if-eq.true))
